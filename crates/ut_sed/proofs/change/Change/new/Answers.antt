use Rattle.std.proofs.Common.{ap, ◌∙◌}
use Rattle.ut_sed.specs.Changing.{images_of}
use Rattle.ut_sed.proofs.change.Change.new.Goals as goal

pub invariant_of-result : goal.invariant_of-result
invariant_of-result c =
    c.in_ok-images.ensures ∙ (ap (λ from. images_of from c.as_slice-2.result.now) c.as_slice.ensures ∙ ap (images_of c.args.from) c.as_slice-2.ensures)
