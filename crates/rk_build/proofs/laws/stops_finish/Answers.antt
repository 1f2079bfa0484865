use Rattle.rk_build.proofs.StopLemmas.{finishes-after, leads-again, stays-undamaged, stop-sealed}
use Rattle.rk_build.proofs.laws.stops_finish.Goals as goal

pub returns-clause-stops : goal.returns-clause-stops
returns-clause-stops c = stop-sealed

pub returns-clause-finishes : goal.returns-clause-finishes
returns-clause-finishes c = finishes-after

pub returns-clause-again : goal.returns-clause-again
returns-clause-again c = leads-again

pub returns-clause-undamaged : goal.returns-clause-undamaged
returns-clause-undamaged c = stays-undamaged
