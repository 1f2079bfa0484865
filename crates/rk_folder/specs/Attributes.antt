-- The entries of a folder with the rows of its attributes, symbolic links and modes that aren't the default.
use Rattle.std.specs.Prelude.{◌≡◌, ℕ, List, [], ◌∷◌, Bool, true, Option, Some, None, if◌then◌else◌}
use Rattle.std.specs.Option.{option_or}
use Rattle.std.specs.FinMap.{get, find}
use Rattle.rk_base.specs.Text.{Text, text_cmp, parent}
use Rattle.rk_tree.specs.Copies.{put_found}
use Rattle.rk_tree.specs.Entries.{Entries, is_dir}
use Rattle.rk_tree.specs.Node.{Node as Entry, File, Dir, Link}
use Rattle.rk_attrs.specs.Rows.{are_rows}
use Rattle.rk_attrs.specs.declared.rows.AttrRow.{AttrRow}
use Rattle.rk_attrs.specs.declared.rows.AttrRow.TheVariants as row

-- a file's mode is applied where a file stands
abbrev pub file_with : ℕ → Option Entry → Option Entry
file_with mode None = None
file_with mode (Some (File old bytes)) = Some (File mode bytes)
file_with mode (Some (Dir old)) = None
file_with mode (Some (Link text)) = None

-- a directory's where a directory stands
abbrev pub dir_with : ℕ → Option Entry → Option Entry
dir_with mode None = None
dir_with mode (Some (File old bytes)) = None
dir_with mode (Some (Dir old)) = Some (Dir mode)
dir_with mode (Some (Link text)) = None

-- a link stands where nothing else does, in a directory
abbrev pub link_in : List ℕ → Bool → Option Entry → Option Entry
link_in text in_dir None = if in_dir then Some (Link text) else None
link_in text in_dir (Some it) = None

-- what a row puts at its path, by whether that is in a directory and by what stands there; none where the row is dropped
abbrev pub put_by : AttrRow → Bool → Option Entry → Option Entry
put_by (row.FileMode mode) in_dir it = file_with mode it
put_by (row.DirMode mode) in_dir it = dir_with mode it
put_by (row.Link text) in_dir it = link_in text in_dir it

abbrev pub with_row : Entries → Text × AttrRow → Entries
with_row snapshot row = put_found snapshot row.0 (put_by row.1 (is_dir (get snapshot (parent row.0))) (get snapshot row.0))

-- the entries with the rows, one after another
abbrev pub with_rows : Entries → List (Text × AttrRow) → Entries
with_rows snapshot [] = snapshot
with_rows snapshot (row ∷ rows) = with_rows (with_row snapshot row) rows

-- what stands at a path with its row, if it has one
abbrev pub stands_with : Option AttrRow → Bool → Option Entry → Option Entry
stands_with None in_dir it = it
stands_with (Some row) in_dir it = option_or (put_by row in_dir it) it

-- each row alone says what stands at its path
abbrev pub RowsApply : Type 0
RowsApply = (snapshot : Entries) (rows : List (Text × AttrRow)) (path : Text) → are_rows rows ≡ true
    → get (with_rows snapshot rows) path ≡ stands_with (find text_cmp path rows) (is_dir (get snapshot (parent path))) (get snapshot path)
