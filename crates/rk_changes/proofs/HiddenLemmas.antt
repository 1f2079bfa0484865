-- The texts of the hidden directory and of its state files.
use Rattle.std.proofs.Common.{◌≡◌, true, false, refl}
use Rattle.std.specs.Ordering.{eq_by_cmp}
use Rattle.rk_base.specs.Text.{text_cmp, root, parent, join, is_within, same_text}
use Rattle.rk_folder.specs.Hidden.{install_file, fresh_list_file}
use Rattle.rk_folder.specs.Specials.{is_state_file}
use Rattle.rk_changes.specs.Holdings.{hidden_dir, attrs_file, db_file}

pub hidden_parent : parent hidden_dir ≡ root
unfolding parent join
hidden_parent = refl

pub attrs_parent : parent attrs_file ≡ hidden_dir
unfolding parent join
attrs_parent = refl

pub db_parent : parent db_file ≡ hidden_dir
unfolding parent join
db_parent = refl

pub install_parent : parent install_file ≡ hidden_dir
unfolding parent join
install_parent = refl

pub fresh_list_parent : parent fresh_list_file ≡ hidden_dir
unfolding parent join
fresh_list_parent = refl

-- they are apart, and are hidden

pub dir_not_attrs : eq_by_cmp text_cmp hidden_dir attrs_file ≡ false
unfolding join
dir_not_attrs = refl

pub dir_not_db : eq_by_cmp text_cmp hidden_dir db_file ≡ false
unfolding join
dir_not_db = refl

pub attrs_not_dir : eq_by_cmp text_cmp attrs_file hidden_dir ≡ false
unfolding join
attrs_not_dir = refl

pub attrs_not_db : eq_by_cmp text_cmp attrs_file db_file ≡ false
unfolding join
attrs_not_db = refl

pub db_not_dir : eq_by_cmp text_cmp db_file hidden_dir ≡ false
unfolding join
db_not_dir = refl

pub db_not_attrs : eq_by_cmp text_cmp db_file attrs_file ≡ false
unfolding join
db_not_attrs = refl

pub dir_hidden : is_within hidden_dir hidden_dir ≡ true
unfolding is_within join
dir_hidden = refl

pub attrs_hidden : is_within hidden_dir attrs_file ≡ true
unfolding is_within join
attrs_hidden = refl

pub db_hidden : is_within hidden_dir db_file ≡ true
unfolding is_within join
db_hidden = refl

pub install_not_dir : same_text install_file hidden_dir ≡ false
unfolding join
install_not_dir = refl

pub install_not_attrs : same_text install_file attrs_file ≡ false
unfolding join
install_not_attrs = refl

pub install_not_db : same_text install_file db_file ≡ false
unfolding join
install_not_db = refl

pub install_hidden : is_within hidden_dir install_file ≡ true
unfolding is_within join
install_hidden = refl

pub install_state : is_state_file install_file ≡ true
unfolding join
install_state = refl

pub fresh_list_not_dir : same_text fresh_list_file hidden_dir ≡ false
unfolding join
fresh_list_not_dir = refl

pub fresh_list_not_attrs : same_text fresh_list_file attrs_file ≡ false
unfolding join
fresh_list_not_attrs = refl

pub fresh_list_not_db : same_text fresh_list_file db_file ≡ false
unfolding join
fresh_list_not_db = refl

pub fresh_list_hidden : is_within hidden_dir fresh_list_file ≡ true
unfolding is_within join
fresh_list_hidden = refl

pub fresh_list_state : is_state_file fresh_list_file ≡ true
unfolding join
fresh_list_state = refl
