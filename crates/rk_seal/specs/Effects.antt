-- What the calls of an install make of a folder.
use Rattle.std.specs.Prelude.{◌≡◌, List, [], ◌∷◌, Bool, true, Option, Some, None}
use Rattle.rk_folder.specs.Told.{Held, can_write, can_make_dir, can_remove_file, can_remove_dir, with_standing, without}
use Rattle.rk_folder.specs.declared.folder.Standing.{Standing}
use Rattle.rk_folder.specs.declared.folder.Standing.TheVariants.{File, Dir}
use Rattle.rk_seal.specs.declared.ops.Op.{Op}
use Rattle.rk_seal.specs.declared.ops.Op.TheVariants.{RemoveFile, RemoveDir, MakeDir, Write}

abbrev pub allowed : Op → Held → Bool
allowed (RemoveFile path) = can_remove_file path
allowed (RemoveDir path) = can_remove_dir path
allowed (MakeDir path) = can_make_dir path
allowed (Write path bytes) = can_write path

-- what a call makes of what the folder holds
abbrev pub step : Op → Held → Held
step (RemoveFile path) = without path
step (RemoveDir path) = without path
step (MakeDir path) = with_standing path Dir
step (Write path bytes) = with_standing path (File bytes)

-- what the calls lead to
abbrev pub after_all : List Op → Held → Held
after_all [] held = held
after_all (op ∷ ops) held = after_all ops (step op held)

-- the folder allows them, one after another
abbrev pub AllowsAll : List Op → Held → Type 0
AllowsAll [] held = Unit {0}
AllowsAll (op ∷ ops) held = (allowed op held ≡ true) × AllowsAll ops (step op held)

-- what a call leaves at its path
abbrev pub left_by : Op → Option Standing
left_by (RemoveFile path) = None
left_by (RemoveDir path) = None
left_by (MakeDir path) = Some Dir
left_by (Write path bytes) = Some (File bytes)
