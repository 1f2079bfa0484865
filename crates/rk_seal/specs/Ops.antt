-- The calls of an install, and their order.
use Rattle.std.specs.Prelude.{ℕ, List, [], ◌∷◌, nat_lt, Bool, true, false, not, ◌&&◌, ◌||◌, ◌==◌, if◌then◌else◌}
use Rattle.std.specs.List.{list_all}
use Rattle.std.specs.Ordering.{is_lt}
use Rattle.rk_base.specs.Text.{Text, text_cmp, same_text, is_root, is_within}
use Rattle.rk_base.specs.Canonical.{is_canonical}
pub use Rattle.rk_folder.specs.Hidden.{hidden_dir, attrs_file, db_file}
use Rattle.rk_seal.specs.declared.ops.Op.{Op}
use Rattle.rk_seal.specs.declared.ops.Op.TheVariants.{RemoveFile, RemoveDir, MakeDir, Write}

abbrev pub path_of : Op → Text
path_of (RemoveFile path) = path
path_of (RemoveDir path) = path
path_of (MakeDir path) = path
path_of (Write path bytes) = path

-- Where a call stands in a plan: removals are 0, directories made 1 and files written 2, the hidden directory made is 3,
-- attrs written or removed 4, and db written 5.
abbrev pub remove_group : Text → ℕ
remove_group path = if same_text path attrs_file then 4 else 0

abbrev pub make_group : Text → ℕ
make_group path = if same_text path hidden_dir then 3 else 1

abbrev pub write_group : Text → ℕ
write_group path = if same_text path attrs_file then 4 else if same_text path db_file then 5 else 2

abbrev pub group : Op → ℕ
group (RemoveFile path) = remove_group path
group (RemoveDir path) = 0
group (MakeDir path) = make_group path
group (Write path bytes) = write_group path

-- a canonical path that isn't the root's; within the hidden directory these of the last groups alone
abbrev pub is_call : Op → Bool
is_call op = is_canonical (path_of op) && (not (is_root (path_of op)) && (not (is_within hidden_dir (path_of op)) || nat_lt 2 (group op)))

-- in a group of removals the greater path comes first, in another one the smaller
abbrev pub is_before_by_path : Op → Op → Bool
is_before_by_path a b = if group a == 0 then is_lt (text_cmp (path_of b) (path_of a)) else is_lt (text_cmp (path_of a) (path_of b))

abbrev pub is_before : Op → Op → Bool
is_before a b = nat_lt (group a) (group b) || ((group a == group b) && is_before_by_path a b)

-- each call comes after the one before it
abbrev pub follow : Op → List Op → Bool
follow last [] = true
follow last (op ∷ ops) = is_before last op && follow op ops

-- at least one call, in a plan's order
unfoldable pub are_calls : List Op → Bool
are_calls [] = false
are_calls (op ∷ ops) = list_all is_call (op ∷ ops) && follow op ops
