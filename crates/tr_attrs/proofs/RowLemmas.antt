-- Rows are read again from their spelling, and how long that is.
use Rattle.std.proofs.Common.{◌≡◌, ◌≤◌, ◌<◌, ◌^◌, ℕ, true, not, ◌==◌, nat_le, List, [], ◌∷◌, ◌++◌, length, drop, Option, Some, refl, sym, ap, subst, ◌∙◌, arith}
use Rattle.std.specs.Int.{w16, to_be_bytes}
use Rattle.std.specs.List.{flat_map, list_all}
use Rattle.std.proofs.lemmas.Bool.{leb-true}
use Rattle.std.proofs.lemmas.List.{length-append, append-nil}
use Rattle.sha2.specs.Sha256.{sha256}
use Rattle.sha2.proofs.Facts256.{length-sha256}
use Rattle.rk_base.specs.Text.{Text}
use Rattle.rk_base.specs.Canonical.{is_canonical}
use Rattle.rk_attrs.specs.declared.rows.AttrRow.{AttrRow}
use Rattle.rk_attrs.specs.declared.rows.AttrRow.TheVariants.{FileMode, DirMode, Link}
use Rattle.rk_attrs.specs.Rows.{file_mode, dir_mode, is_mode, suits, is_row, are_rows}
use Rattle.rk_attrs.proofs.RowLemmas.{both, row_parts, each_row}
use Rattle.tr_parts.specs.Piece.{num, string}
use Rattle.tr_parts.specs.Sealed.{sealed}
use Rattle.tr_parts.specs.Reading.{◌>>=◌, given, number_at, byte_at, string_at, counted_at, path_at}
use Rattle.tr_attrs.specs.RowReading.{file_mode_at, dir_mode_at, link_at, attr_of, attr_at, attr_row_at, rows_at}
use Rattle.tr_attrs.specs.Attrs.{attr_spelling, row_spelling, attrs_magic, attrs_body, attrs_spelling}
use Rattle.tr_parts.proofs.AgainLemmas.{Again, again_bind, again_last, again_check, mode_again, byte_again, Items, again_counted, string_again}
use Rattle.tr_parts.proofs.SealLemmas.{num_length, one_front}

-- a mode has two bytes
mode_small : (default mode : ℕ) → is_mode default mode ≡ true → mode < 2 ^ 16
mode_small default mode h = let le : mode ≤ 511 = leb-true mode 511 (both (nat_le mode 511) (not (mode == default)) h).0 in omega arith

-- ---- a row

attr_again : (path : Text) (it : AttrRow) → suits path it ≡ true → Again attr_at (attr_spelling it) it
unfolding attr_at file_mode_at dir_mode_at link_at
attr_again path (FileMode mode) h =
    again_bind byte_at attr_of (1 ∷ []) (to_be_bytes w16 mode) 1 (FileMode mode) (byte_again 1 (omega arith)) (again_last (number_at w16) FileMode (to_be_bytes w16 mode) mode (mode_again mode (mode_small file_mode mode h)))
attr_again path (DirMode mode) h =
    again_bind byte_at attr_of (2 ∷ []) (to_be_bytes w16 mode) 2 (DirMode mode) (byte_again 2 (omega arith)) (again_last (number_at w16) DirMode (to_be_bytes w16 mode) mode (mode_again mode (mode_small dir_mode mode h)))
attr_again path (Link text) h = again_bind byte_at attr_of (3 ∷ []) (string text) 3 (Link text) (byte_again 3 (omega arith)) (again_last string_at Link (string text) text (string_again text))

path_again : (text : Text) → is_canonical text ≡ true → Again path_at (string text) text
unfolding path_at
path_again text h = again_check string_at (λ (t : Text). given (is_canonical t) t) (λ (p : Text). p) (string text) text text (string_again text) (ap (λ b. given b text) h)

row_again : (row : Text × AttrRow) → is_row row ≡ true → Again attr_row_at (row_spelling row) row
unfolding attr_row_at
row_again row h =
    let p = row_parts row h in
    again_bind path_at (λ path bytes. attr_at bytes >>= λ it. Some ((path, it.0), it.1)) (string row.0) (attr_spelling row.1) row.0 row
    (path_again row.0 p.0)
    (again_last attr_at (λ it. let r : Text × AttrRow = (row.0, it) in r) (attr_spelling row.1) row.1 (attr_again row.0 row.1 p.2))

row_length : (row : Text × AttrRow) → 1 ≤ length (row_spelling row)
row_length row = omega (arith, length-append (string row.0) (attr_spelling row.1), length-append (num (length row.0)) row.0, num_length (length row.0))

row_items : (front rows : List (Text × AttrRow)) → list_all is_row rows ≡ true → Items (λ before. attr_row_at) row_spelling front rows
row_items front [] h = tt
row_items front (row ∷ rows) h =
    let p = both (is_row row) (list_all is_row rows) h in
    (row_again row p.0, row_length row, row_items (front ++ row ∷ []) rows p.1)

-- ---- rows

abbrev after_magic : List (Text × AttrRow) → List ℕ
after_magic rows = num (length rows) ++ flat_map row_spelling rows

rows_again : (rows : List (Text × AttrRow)) → are_rows rows ≡ true → length (after_magic rows) < 2 ^ 64 → rows_at (after_magic rows) ≡ Some rows
unfolding rows_at
rows_again rows h small =
    let all = after_magic rows in
    let less : length (all ++ []) < 2 ^ 64 = subst (λ l. length l < 2 ^ 64) (sym (append-nil all)) small in
    let last : Option (List (Text × AttrRow) × List ℕ) → Option (List (Text × AttrRow)) = λ o. o >>= λ rows. given (are_rows rows.0) rows.0 in
    ap (λ bytes. last (counted_at (λ front. attr_row_at) bytes)) (sym (append-nil all)) ∙ ap last (again_counted (λ front. attr_row_at) row_spelling rows (row_items [] rows (each_row rows h)) [] less) ∙ ap (λ b. given b rows) h

pub parsed_rows : (front : List ℕ) (rows : List (Text × AttrRow)) → are_rows rows ≡ true → length front < 2 ^ 64 → front ≡ attrs_body rows → rows_at (drop 4 front) ≡ Some rows
parsed_rows front rows h small e =
    let few : length (attrs_body rows) < 2 ^ 64 = subst (λ (f : List ℕ). length f < 2 ^ 64) e small in
    ap (λ (f : List ℕ). rows_at (drop 4 f)) e ∙ rows_again rows h (omega (arith, length-append attrs_magic (after_magic rows)))

pub attrs_length : (bytes : List ℕ) (rows : List (Text × AttrRow)) → bytes ≡ attrs_spelling rows → 44 ≤ length bytes
attrs_length bytes rows e =
    let front = attrs_body rows in
    omega (
      arith,
      ap length e,
      length-append front (sha256 front),
      length-sha256 front,
      length-append attrs_magic (after_magic rows),
      length-append (num (length rows)) (flat_map row_spelling rows),
      num_length (length rows),
    )

pub one_attrs : (a b : List (Text × AttrRow)) → are_rows a ≡ true → are_rows b ≡ true → length (attrs_spelling a) < 2 ^ 64 → attrs_spelling a ≡ attrs_spelling b → a ≡ b
one_attrs a b f g small e =
    let front = attrs_body a in
    let same : front ≡ attrs_body b = one_front (sealed front) front (attrs_body b) refl e in
    let few : length front < 2 ^ 64 = omega (arith, length-append front (sha256 front)) in
    let x = parsed_rows front a f few refl in
    let y = parsed_rows front b g few same in
    cc
