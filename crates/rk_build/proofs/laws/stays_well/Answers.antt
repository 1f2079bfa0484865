use Rattle.rk_build.proofs.SessionLemmas.{stays-well}
use Rattle.rk_build.proofs.laws.stays_well.Goals as goal

pub returns : goal.returns
returns c = stays-well
