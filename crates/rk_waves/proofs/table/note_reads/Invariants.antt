use Rattle.std.proofs.Common.{◌≡◌, drop}
use Rattle.rk_waves.specs.Table.{all_changed, with_read}
use Rattle.rk_waves.proofs.table.note_reads.Given as goal

abbrev pub invariant-cells : goal.invariant-cells
invariant-cells l = all_changed (with_read l.owner l.after) l.cells.items (drop l.c-index l.reads)
    ≡ all_changed (with_read l.owner l.after) l.initial.cells.items l.reads
