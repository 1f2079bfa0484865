use Rattle.std.proofs.Common.{◌≡◌, map, take}
use Rattle.rk_waves.specs.Table.{fresh_cell}
use Rattle.rk_waves.proofs.table.fresh_cells.Given as goal

abbrev pub invariant-cells : goal.invariant-cells
invariant-cells l = l.cells.items ≡ map fresh_cell (take l.it-index l.gathers)
