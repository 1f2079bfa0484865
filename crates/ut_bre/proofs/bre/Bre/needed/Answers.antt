use Rattle.std.proofs.Common.{ap, ◌∙◌}
use Rattle.ut_bre.specs.Expressions.{expression}
use Rattle.ut_bre.specs.Trees.{trees_of}
use Rattle.ut_bre.specs.Needing.{needed}
use Rattle.ut_bre.proofs.NeededLemmas.{is-held, is-needed}
use Rattle.ut_bre.proofs.bre.Bre.needed.Goals as goal

pub returns : goal.returns
returns c =
    let value = c.needed.ensures ∙ ap (λ xs. needed (trees_of xs)) c.as_slice.ensures.value in
    let held = is-held (expression c.args.self.now) c.needed.result value in
    record { value = value; held = held; needed = is-needed (expression c.args.self.now) c.needed.result held }
