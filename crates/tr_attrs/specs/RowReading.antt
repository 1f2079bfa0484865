-- Reading rows of attributes, as functions on bytes: a value and the rest, or none.
use Rattle.std.specs.Prelude.{ℕ, List, Option, Some, None, ◌==◌, if◌then◌else◌}
use Rattle.std.specs.Int.{w16}
use Rattle.rk_base.specs.Text.{Text}
use Rattle.rk_attrs.specs.declared.rows.AttrRow.{AttrRow}
use Rattle.rk_attrs.specs.declared.rows.AttrRow.TheVariants.{FileMode, DirMode, Link}
use Rattle.rk_attrs.specs.Rows.{are_rows}
use Rattle.tr_parts.specs.Reading.{◌>>=◌, given, number_at, byte_at, string_at, counted_at, path_at}

unfoldable pub file_mode_at : List ℕ → Option (AttrRow × List ℕ)
file_mode_at bytes = do
  mode ← number_at w16 bytes
  Some (FileMode mode.0, mode.1)

unfoldable pub dir_mode_at : List ℕ → Option (AttrRow × List ℕ)
dir_mode_at bytes = do
  mode ← number_at w16 bytes
  Some (DirMode mode.0, mode.1)

unfoldable pub link_at : List ℕ → Option (AttrRow × List ℕ)
link_at bytes = do
  text ← string_at bytes
  Some (Link text.0, text.1)

abbrev pub attr_of : ℕ → List ℕ → Option (AttrRow × List ℕ)
attr_of kind bytes =
    if kind == 1 then file_mode_at bytes else
    if kind == 2 then dir_mode_at bytes else
    if kind == 3 then link_at bytes else None

unfoldable pub attr_at : List ℕ → Option (AttrRow × List ℕ)
attr_at bytes = do
  kind ← byte_at bytes
  attr_of kind.0 kind.1

unfoldable pub attr_row_at : List ℕ → Option ((Text × AttrRow) × List ℕ)
attr_row_at bytes = do
  path ← path_at bytes
  it ← attr_at path.1
  Some ((path.0, it.0), it.1)

-- the rows that a body may spell, after its magic; what stands after them isn't looked at
unfoldable pub rows_at : List ℕ → Option (List (Text × AttrRow))
rows_at bytes = do
  rows ← counted_at (λ front. attr_row_at) bytes
  given (are_rows rows.0) rows.0
