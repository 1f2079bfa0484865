use Rattle.rk_waves.proofs.LeastLemmas.{are-least}
use Rattle.rk_waves.proofs.world.least_waves.Goals as goal

pub returns : goal.returns
returns c = record { least = are-least }
