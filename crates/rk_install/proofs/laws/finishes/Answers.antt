use Rattle.rk_install.proofs.HalfwayLemmas.{finishes-all, stays-whole, stops-again, stops-halfway}
use Rattle.rk_install.proofs.RecoveryLemmas.{never-damaged, recovers-all, stays-sealed}
use Rattle.rk_install.proofs.laws.finishes.Goals as goal

pub returns-clause-whole : goal.returns-clause-whole
returns-clause-whole c = stays-whole

pub returns-clause-stops : goal.returns-clause-stops
returns-clause-stops c = stops-halfway

pub returns-clause-finishes : goal.returns-clause-finishes
returns-clause-finishes c = finishes-all

pub returns-clause-again : goal.returns-clause-again
returns-clause-again c = stops-again

pub returns-clause-recovers : goal.returns-clause-recovers
returns-clause-recovers c = recovers-all

pub returns-clause-sealed : goal.returns-clause-sealed
returns-clause-sealed c = stays-sealed

pub returns-clause-undamaged : goal.returns-clause-undamaged
returns-clause-undamaged c = never-damaged
