use Rattle.rk_build.proofs.SettledLemmas.{refused-settle}
use Rattle.rk_build.proofs.laws.refused_settle.Goals as goal

pub returns : goal.returns
returns c = refused-settle
