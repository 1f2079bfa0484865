use Rattle.rk_folder.proofs.HiddenLemmas.{db_text-canonical}
use Rattle.rk_folder.proofs.hidden_files.db_file.Goals as goal

pub path_of-requires : goal.path_of-requires
path_of-requires c = db_text-canonical
