use Rattle.std.proofs.Common.{◌≡◌, drop}
use Rattle.std.specs.Prelude.{max}
use Rattle.rk_waves.specs.Table.{after_reads}
use Rattle.rk_waves.proofs.table.after_reads.Given as goal

abbrev pub invariant-cells : goal.invariant-cells
invariant-cells l = max l.after (after_reads l.cells l.owner (drop l.c-index l.reads)) ≡ after_reads l.cells l.owner l.reads
