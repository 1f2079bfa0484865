use Rattle.rk_folder.proofs.HiddenLemmas.{attrs_text-canonical}
use Rattle.rk_folder.proofs.hidden_files.attrs_file.Goals as goal

pub path_of-requires : goal.path_of-requires
path_of-requires c = attrs_text-canonical
