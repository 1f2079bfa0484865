use Rattle.rk_folder.proofs.HiddenLemmas.{hidden_text-canonical}
use Rattle.rk_folder.proofs.hidden_files.hidden_dir.Goals as goal

pub path_of-requires : goal.path_of-requires
path_of-requires c = hidden_text-canonical
