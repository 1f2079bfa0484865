use Rattle.std.proofs.Common.{arith}
use Rattle.std.proofs.lemmas.Grind.{common_steps}
use Rattle.rk_show.proofs.showing.add_bytes.Goals as goal

pub loop-b-preserved : goal.loop-b-preserved
loop-b-preserved c = record {
  shown = grind (arith, common_steps);
  ascii = λ h. c.in_ok-add_byte.ensures.ascii (c.loop-b.invariant.ascii h);
}
