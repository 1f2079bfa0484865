use Rattle.rk_folder.proofs.ListedLemmas.{listed-full}
use Rattle.rk_folder.proofs.imported.listed_in_full.Goals as goal

pub returns : goal.returns
returns c = listed-full
