use Rattle.rk_feet.proofs.ToldDescriptions as told
use Rattle.rk_feet.proofs.tells_descriptions.Goals as goal

pub returns : goal.returns
returns c = record { tells = told.descriptions }
