-- The spelling of rows of attributes.
use Rattle.std.specs.Prelude.{ℕ, List, [], ◌∷◌, ◌++◌, length}
use Rattle.std.specs.Int.{w16, to_be_bytes}
use Rattle.std.specs.List.{flat_map}
use Rattle.rk_base.specs.Text.{Text}
use Rattle.rk_attrs.specs.declared.rows.AttrRow.{AttrRow}
use Rattle.rk_attrs.specs.declared.rows.AttrRow.TheVariants.{FileMode, DirMode, Link}
use Rattle.tr_parts.specs.Piece.{num, string}
use Rattle.tr_parts.specs.Sealed.{sealed}

-- a kind, and a mode of two bytes or a text
abbrev pub attr_spelling : AttrRow → List ℕ
attr_spelling (FileMode mode) = 1 ∷ to_be_bytes w16 mode
attr_spelling (DirMode mode) = 2 ∷ to_be_bytes w16 mode
attr_spelling (Link text) = 3 ∷ string text

abbrev pub row_spelling : Text × AttrRow → List ℕ
row_spelling row = string row.0 ++ attr_spelling row.1

-- `RKA1`
abbrev pub attrs_magic : List ℕ
attrs_magic = 0x52 ∷ 0x4b ∷ 0x41 ∷ 0x31 ∷ []

-- the magic, how many rows there are, and each
abbrev pub attrs_body : List (Text × AttrRow) → List ℕ
attrs_body rows = attrs_magic ++ (num (length rows) ++ flat_map row_spelling rows)

abbrev pub attrs_spelling : List (Text × AttrRow) → List ℕ
attrs_spelling rows = sealed (attrs_body rows)
