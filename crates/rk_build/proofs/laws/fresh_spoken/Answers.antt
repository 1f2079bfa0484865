use Rattle.rk_build.proofs.SessionLemmas.{fresh-records}
use Rattle.rk_build.proofs.laws.fresh_spoken.Goals as goal

pub returns : goal.returns
returns c = fresh-records
