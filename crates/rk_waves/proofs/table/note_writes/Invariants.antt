use Rattle.std.proofs.Common.{◌≡◌, drop}
use Rattle.rk_waves.specs.Table.{all_changed, with_written}
use Rattle.rk_waves.proofs.table.note_writes.Given as goal

abbrev pub invariant-cells : goal.invariant-cells
invariant-cells l = all_changed (with_written l.owner l.after) l.cells.items (drop l.c-index l.writes)
    ≡ all_changed (with_written l.owner l.after) l.initial.cells.items l.writes
