use Rattle.std.proofs.Common.{ap, drop, ◌∙◌, arith}
use Rattle.sh_token.specs.Folded.{folded, behind_one}
use Rattle.sh_token.proofs.Folding.{drop_next, behind_next}
use Rattle.sh_token.proofs.folded.skip.Goals as goal

pub loop-at-preserved : goal.loop-at-preserved
loop-at-preserved c =
    let i = c.loop-at.invariant in
    let r = c.rest-left.ensures in (
      r.read ∙ ap (λ x. drop 1 x) i.0 ∙ drop_next c.loop-at.at (folded c.args.text.now),
      behind_next c.loop-at.at c.args.text.now c.rest-left.result.now (r.left ∙ ap behind_one i.1),
      omega (arith, r.within, i.2),
    )
