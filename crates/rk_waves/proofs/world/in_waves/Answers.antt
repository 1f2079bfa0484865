use Rattle.rk_waves.specs.Programs.{by_cells}
use Rattle.rk_waves.proofs.CoverLemmas.{conflict-more}
use Rattle.rk_waves.proofs.Lawful.{cell-is, cell-self, programmed-lawful}
use Rattle.rk_waves.proofs.InWaves.{in-waves, in-waves-apart}
use Rattle.rk_waves.proofs.PlacedLemmas.{wave_of-is}
use Rattle.rk_waves.proofs.world.in_waves.Goals as goal

pub returns-clause-waves : goal.returns-clause-waves
returns-clause-waves g c = in-waves (by_cells g.W.ByCells.programmed) (programmed-lawful g.W.ByCells.programmed)

pub returns-clause-least : goal.returns-clause-least
returns-clause-least g c = wave_of-is (by_cells g.W.ByCells.programmed)

pub returns-clause-apart : goal.returns-clause-apart
returns-clause-apart g c = in-waves-apart (by_cells g.W.ByCells.programmed) (programmed-lawful g.W.ByCells.programmed)

pub returns-clause-more : goal.returns-clause-more
returns-clause-more g c = conflict-more (by_cells g.W.ByCells.programmed) (cell-is g.W.ByCells.programmed) (cell-self g.W.ByCells.programmed)
