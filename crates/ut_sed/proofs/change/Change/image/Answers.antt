use Rattle.std.proofs.Common.{ap, ◌∙◌, arith}
use Rattle.ut_sed.specs.Changing.{ChangeValue, image}
use Rattle.ut_sed.proofs.ChangeLemmas.{image_at}
use Rattle.ut_sed.proofs.change.Change.image.Goals as goal

pub returns : goal.returns
returns c =
    let within = c.self.inside in
    c.index.ensures ∙ (image_at (λ b. image b within.from within.to) within.images.items c.args.b c.index.result.now (omega (arith, c.ranges.b.fits)) c.self.invariant ∙ ap (λ (v : ChangeValue). image c.args.b v.from v.to) c.self.view_is)
