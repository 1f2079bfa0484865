-- What is so of each row, and of rows.
use Rattle.std.proofs.Common.{◌≡◌, Bool, true, false, not, ◌&&◌, List, refl, ap, ◌∙◌}
use Rattle.std.specs.List.{list_all}
use Rattle.rk_base.specs.Text.{Text, root, join, hidden, is_within}
use Rattle.rk_base.specs.Canonical.{is_canonical}
use Rattle.rk_attrs.specs.declared.rows.AttrRow.{AttrRow}
use Rattle.rk_attrs.specs.Rows.{suits, is_row, ascend, are_rows}

pub both : (a b : Bool) → (a && b) ≡ true → (a ≡ true) × (b ≡ true)
both true b h = (refl, h)
both false b h = cc

-- what is_row says
pub row_parts : (row : Text × AttrRow) → is_row row ≡ true → (is_canonical row.0 ≡ true) × (not (is_within (join root hidden) row.0) ≡ true) × (suits row.0 row.1 ≡ true)
row_parts row h =
    let a = both (is_canonical row.0 && not (is_within (join root hidden) row.0)) (suits row.0 row.1) h in
    let b = both (is_canonical row.0) (not (is_within (join root hidden) row.0)) a.0 in
    (b.0, b.1, a.1)

pub each_row : (rows : List (Text × AttrRow)) → are_rows rows ≡ true → list_all is_row rows ≡ true
unfolding are_rows
each_row rows h = (both (list_all is_row rows) (ascend rows) h).0

pub rows_ascend : (rows : List (Text × AttrRow)) → are_rows rows ≡ true → ascend rows ≡ true
unfolding are_rows
rows_ascend rows h = (both (list_all is_row rows) (ascend rows) h).1

pub rows_are : (rows : List (Text × AttrRow)) → list_all is_row rows ≡ true → ascend rows ≡ true → are_rows rows ≡ true
unfolding are_rows
rows_are rows each up = ap (λ (b : Bool). b && ascend rows) each ∙ up
