-- Laws of the spelling.
use Rattle.std.specs.Prelude.{◌≡◌, ◌<◌, ◌^◌, List, length, true}
use Rattle.rk_base.specs.Text.{Text}
use Rattle.rk_attrs.specs.declared.rows.AttrRow.{AttrRow}
use Rattle.rk_attrs.specs.Rows.{are_rows}
use Rattle.tr_attrs.specs.Attrs.{attrs_spelling}

-- no two lists of rows have one spelling (of fewer than 2^64 bytes, as all bytes in memory are)
abbrev pub OneAttrs : Type 0
OneAttrs = (a b : List (Text × AttrRow)) → are_rows a ≡ true → are_rows b ≡ true → length (attrs_spelling a) < 2 ^ 64 → attrs_spelling a ≡ attrs_spelling b → a ≡ b
