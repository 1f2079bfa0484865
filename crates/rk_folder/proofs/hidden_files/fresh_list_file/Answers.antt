use Rattle.rk_folder.proofs.HiddenLemmas.{fresh_list_text-canonical}
use Rattle.rk_folder.proofs.hidden_files.fresh_list_file.Goals as goal

pub path_of-requires : goal.path_of-requires
path_of-requires c = fresh_list_text-canonical
