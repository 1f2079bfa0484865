use Rattle.std.proofs.Common.{◌≡◌, map, subst, arith}
use Rattle.std.specs.List.{range_with_len}
use Rattle.ut_sed.specs.Changing.{image}
use Rattle.ut_sed.proofs.ChangeLemmas.{image_more}
use Rattle.ut_sed.proofs.change.images.Goals as goal

pub loop-i-preserved : goal.loop-i-preserved
loop-i-preserved c =
    image_more (λ b. image b c.args.from.now c.args.to.now) c.loop-i.i _ _ _ _ c.image.ensures c.in_ok-push.ensures.items c.loop-i.invariant (omega arith)

pub returns : goal.returns
returns c =
    let last : c.loop-i.i ≡ 256 = omega (arith, c.loop-i-test.false, c.loop-i.auto.i-end) in
    subst (λ n. c.loop-i.images.items ≡ map (λ b. image b c.args.from.now c.args.to.now) (range_with_len 0 n)) last c.loop-i.invariant
