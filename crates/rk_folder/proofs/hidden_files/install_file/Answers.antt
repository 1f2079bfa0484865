use Rattle.rk_folder.proofs.HiddenLemmas.{install_text-canonical}
use Rattle.rk_folder.proofs.hidden_files.install_file.Goals as goal

pub path_of-requires : goal.path_of-requires
path_of-requires c = install_text-canonical
