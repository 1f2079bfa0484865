-- What is true of each folder that tells what it holds.
use Rattle.std.specs.Prelude.{◌≡◌, true, false, Option, IfSome}
use Rattle.std.specs.List.{list_all}
use Rattle.rk_base.specs.Text.{Text, root, parent}
use Rattle.rk_base.specs.Canonical.{is_canonical}
use Rattle.rk_folder.specs.Told.{Held, standing, is_dir, is_nothing}

-- The root is a directory, and so is what each other path stands in and what holds a name which is
-- none.
pub record IsWhole (held : Held) : Type 0 where
  pub root_dir : is_dir (standing held root) ≡ true
  pub parents : (path : Text) → is_nothing (standing held path) ≡ false → is_dir (standing held (parent path)) ≡ true
  pub paths : (path : Text) → is_nothing (standing held path) ≡ false → is_canonical path ≡ true
  pub odd_dirs : list_all (λ dir. is_dir (standing held dir)) held.odd ≡ true

abbrev pub TellsWhole : Option Held → Type 0
TellsWhole told = IfSome told IsWhole
