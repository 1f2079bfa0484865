use Rattle.rk_seal.proofs.ListLemmas.{one_list}
use Rattle.rk_seal.proofs.laws.one_list.Goals as goal

pub returns : goal.returns
returns c = one_list
