use Rattle.std.proofs.Common.{arith}
use Rattle.std.proofs.lemmas.Grind.{common_steps}
use Rattle.rk_waves.proofs.table.after_writes.Goals as goal

pub cells-preserved : goal.cells-preserved
cells-preserved c = grind (arith, common_steps, c.cells.invariant)
