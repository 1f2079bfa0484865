use Rattle.rk_feet.proofs.PlayedLemmas.{plays}
use Rattle.rk_feet.proofs.plays_kernel.Goals as goal

pub returns : goal.returns
returns c = record { plays = plays }
