use Rattle.std.proofs.Common.{◌∙◌}
use Rattle.rk_walk.proofs.PartLemmas.{skipped}
use Rattle.rk_walk.proofs.text.skip_slashes.Goals as goal

pub loop-i-preserved : goal.loop-i-preserved
loop-i-preserved c more = c.loop-i.invariant more ∙ skipped c.args.text.now c.loop-i.i more c.loop-i-test.true c.if-b-ne47.false
