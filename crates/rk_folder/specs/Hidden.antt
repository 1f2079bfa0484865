-- The hidden directory and its state files.
use Rattle.rk_base.specs.Text.{Text, root, join, hidden}
use Rattle.std.specs.Prelude.{[], ◌∷◌}

abbrev pub hidden_dir : Text
hidden_dir = join root hidden

abbrev pub attrs_name : Text
attrs_name = 97 ∷ 116 ∷ 116 ∷ 114 ∷ 115 ∷ []

abbrev pub db_name : Text
db_name = 100 ∷ 98 ∷ []

abbrev pub install_name : Text
install_name = 105 ∷ 110 ∷ 115 ∷ 116 ∷ 97 ∷ 108 ∷ 108 ∷ []

abbrev pub fresh_list_name : Text
fresh_list_name = 105 ∷ 110 ∷ 115 ∷ 116 ∷ 97 ∷ 108 ∷ 108 ∷ 46 ∷ 110 ∷ 101 ∷ 119 ∷ []

-- attributes, and the database
abbrev pub attrs_file : Text
attrs_file = join hidden_dir attrs_name

abbrev pub db_file : Text
db_file = join hidden_dir db_name

-- a sealed list of calls, and one that isn't sealed yet
abbrev pub install_file : Text
install_file = join hidden_dir install_name

abbrev pub fresh_list_file : Text
fresh_list_file = join hidden_dir fresh_list_name
