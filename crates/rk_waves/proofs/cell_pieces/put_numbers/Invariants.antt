use Rattle.std.proofs.Common.{◌≡◌, ◌++◌}
use Rattle.rk_waves.specs.CellPieces.{AllStand, numbers_in}
use Rattle.rk_waves.specs.Grown.{Grown}
use Rattle.rk_waves.proofs.cell_pieces.put_numbers.Given as goal

abbrev pub invariant-cells : goal.invariant-cells
invariant-cells g l = record {
  grown : Grown g.C.PartialEq.eq l.initial.cells l.cells;
  numbers : l.numbers.items ≡ l.initial.numbers.items ++ numbers_in g.C.PartialEq.eq l.cells l.yielded;
  stand : AllStand g.C.PartialEq.eq l.cells l.yielded;
}
