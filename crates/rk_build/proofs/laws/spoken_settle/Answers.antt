use Rattle.rk_build.proofs.SettledLemmas.{spoken-settle}
use Rattle.rk_build.proofs.laws.spoken_settle.Goals as goal

pub returns : goal.returns
returns c = spoken-settle
