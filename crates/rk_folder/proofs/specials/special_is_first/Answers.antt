use Rattle.rk_folder.proofs.FirstLemmas.{first_special-is}
use Rattle.rk_folder.proofs.specials.special_is_first.Goals as goal

pub returns : goal.returns
returns c = record { first = first_special-is }
