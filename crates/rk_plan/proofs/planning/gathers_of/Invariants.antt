use Rattle.std.proofs.Common.{◌≡◌, map, take}
use Rattle.rk_kernel.specs.Cell.{gathers}
use Rattle.rk_plan.proofs.planning.gathers_of.Given as goal

abbrev pub invariant-cells : goal.invariant-cells
invariant-cells l = record { all : l.all.items ≡ map gathers (take l.cell-index l.cells) }
