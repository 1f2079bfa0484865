use Rattle.rk_feet.proofs.ToldSteps as told
use Rattle.rk_feet.proofs.tells_feet.Goals as goal

pub returns : goal.returns
returns c = record { tells = told.feet }
