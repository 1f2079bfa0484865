-- What of a snapshot a folder doesn't keep, symbolic links and modes that aren't the default, as rows of attributes.
use Rattle.std.specs.Prelude.{◌≡◌, List, ◌==◌, Option, Some, None, option_map, if◌then◌else◌}
use Rattle.std.specs.List.{filter_map}
use Rattle.std.specs.FinMap.{entries}
use Rattle.rk_base.specs.Text.{Text}
use Rattle.rk_tree.specs.Content.{bytes_of}
use Rattle.rk_tree.specs.Entries.{Entries, IsWholeSnapshot}
use Rattle.rk_tree.specs.Full.{own}
use Rattle.rk_tree.specs.declared.content.Content.TheVariants.{Own}
use Rattle.rk_tree.specs.Rows.{map_of}
use Rattle.rk_tree.specs.Node.{Node as Entry, File, Dir, Link}
use Rattle.rk_attrs.specs.Rows.{file_mode, dir_mode}
use Rattle.rk_attrs.specs.declared.rows.AttrRow.{AttrRow}
use Rattle.rk_attrs.specs.declared.rows.AttrRow.TheVariants as row
use Rattle.rk_folder.specs.Attributes.{with_rows}
use Rattle.rk_folder.specs.Import.{snapshot_of}
use Rattle.rk_folder.specs.Told.{Held}
use Rattle.rk_changes.specs.Holdings.{Holds}
use Rattle.rk_changes.specs.declared.holding.Holding.{Holding}

-- a mode that isn't the default, or a link
abbrev pub row_of : Entry → Option AttrRow
row_of (File mode content) = if mode == file_mode then None else Some (row.FileMode mode)
row_of (Dir mode) = if mode == dir_mode then None else Some (row.DirMode mode)
row_of (Link text) = Some (row.Link text)

abbrev pub attr_row : Text × Entry → Option (Text × AttrRow)
attr_row place = option_map (λ it. (place.0, it)) (row_of place.1)

-- the rows, ascending by path
abbrev pub attrs_of : Entries → List (Text × AttrRow)
attrs_of snapshot = filter_map attr_row (entries snapshot)

-- what a folder keeps: a file or a directory, of the default mode
abbrev pub plain_of : Entry → Option Entry
plain_of (File mode content) = Some (File file_mode (Own (bytes_of content)))
plain_of (Dir mode) = Some (Dir dir_mode)
plain_of (Link text) = None

abbrev pub plain_row : Text × Entry → Option (Text × Entry)
plain_row place = option_map (λ it. (place.0, it)) (plain_of place.1)

abbrev pub plain : Entries → Entries
plain snapshot = map_of (filter_map plain_row (entries snapshot))

-- what a folder keeps of a whole snapshot is, with its rows, the snapshot again, each file with its bytes
abbrev pub RowsKeep : Type 0
RowsKeep = (snapshot : Entries) → IsWholeSnapshot snapshot → with_rows (plain snapshot) (attrs_of snapshot) ≡ own snapshot

-- what is imported of a folder that holds a snapshot is what it keeps of it
abbrev pub PlainHeld : Type 0
PlainHeld = (held : Held) (holding : Holding) → Holds held holding → snapshot_of held ≡ plain holding.entries

-- so a folder that holds what a build leaves has, with the rows, the entries that the build left, each file with its bytes
abbrev pub BuiltHeld : Type 0
BuiltHeld = (held : Held) (holding : Holding) → Holds held holding → IsWholeSnapshot holding.entries → with_rows (snapshot_of held) (attrs_of holding.entries) ≡ own holding.entries
