use Rattle.std.proofs.Common.{◌≡◌, drop}
use Rattle.std.specs.Prelude.{max}
use Rattle.rk_waves.specs.Table.{after_writes}
use Rattle.rk_waves.proofs.table.after_writes.Given as goal

abbrev pub invariant-cells : goal.invariant-cells
invariant-cells l = max l.after (after_writes l.cells l.owner (drop l.c-index l.writes)) ≡ after_writes l.cells l.owner l.writes
