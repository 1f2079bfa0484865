use Rattle.rk_build.proofs.KeptLemmas.{finds-next}
use Rattle.rk_build.proofs.laws.finds_next.Goals as goal

pub returns : goal.returns
returns c = finds-next
