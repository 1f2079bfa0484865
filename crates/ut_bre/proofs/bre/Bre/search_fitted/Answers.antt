use Rattle.std.proofs.Common.{ap, ◌∙◌, arith}
use Rattle.ut_bre.specs.Expressions.{expression}
use Rattle.ut_bre.specs.Trees.{trees_of}
use Rattle.ut_bre.specs.Fitting.{least_size, capped}
use Rattle.ut_bre.proofs.Walked.{past-end}
use Rattle.ut_bre.proofs.Alike.{too-long}
use Rattle.ut_bre.proofs.bre.Bre.search_fitted.Goals as goal

pub returns-then-from-line : goal.returns-then-from-line
returns-then-from-line c = past-end (expression c.args.self.now) c.args.line.now c.args.from c.if-from-line.true

pub returns-then-least_size-room : goal.returns-then-least_size-room
returns-then-least_size-room c =
    too-long (expression c.args.self.now) c.args.line.now c.args.from c.least_size.result (c.least_size.ensures ∙ ap (λ xs. capped (least_size (trees_of xs))) c.as_slice.ensures.value) (omega (arith, c.if-least_size-room.true))
