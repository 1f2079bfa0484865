use Rattle.rk_waves.specs.Programs.{by_cells}
use Rattle.rk_waves.proofs.NumberedLemmas.{waves-are}
use Rattle.rk_waves.proofs.world.by_numbers.Goals as goal

pub returns : goal.returns
returns g c = record { numbers = λ known number gathers are earlier p k l. waves-are (by_cells g.W.ByCells.programmed) known number gathers are earlier p k l }
