-- A made folder, and what its edits leave.
use Rattle.std.specs.Prelude.{ℕ, List, [], ◌∷◌, if◌then◌else◌}
use Rattle.rk_folder.specs.Told.{Held, can_remove_file, can_write, with_standing, without}
use Rattle.rk_folder.specs.declared.folder.Standing.TheVariants.{File as a_file}
use Rattle.rk_gen.specs.declared.edits.Edit.{Edit}
use Rattle.rk_gen.specs.declared.edits.Edit.TheVariants.{Write, Remove, Nothing}
use Rattle.rk_gen.specs.declared.files.File.{File}

-- a file stands where it may, and else the folder stays as it is
abbrev pub with_file : File → Held → Held
with_file file held = if can_write file.path held then with_standing file.path (a_file file.bytes) held else held

-- a file is gone if it stood
abbrev pub without_file : List ℕ → Held → Held
without_file path held = if can_remove_file path held then without path held else held

-- an edit is made
abbrev pub changed : Edit → Held → Held
changed (Write file) held = with_file file held
changed (Remove path) held = without_file path held
changed Nothing held = held

-- files are put one after another
abbrev pub with_files : List File → Held → Held
with_files [] held = held
with_files (file ∷ files) held = with_files files (with_file file held)
