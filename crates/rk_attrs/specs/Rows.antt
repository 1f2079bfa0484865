-- Rows of attributes: a symbolic link, or a mode that isn't the default, at a path.
use Rattle.std.specs.Prelude.{ℕ, List, [], ◌∷◌, nat_le, Bool, true, not, ◌&&◌, ◌==◌}
use Rattle.std.specs.List.{list_all, list_any}
use Rattle.std.specs.Ordering.{is_lt}
use Rattle.rk_base.specs.Text.{Text, text_cmp, root, join, hidden, is_root, is_within}
use Rattle.rk_base.specs.Canonical.{is_canonical, is_empty}
use Rattle.rk_attrs.specs.declared.rows.AttrRow.{AttrRow}
use Rattle.rk_attrs.specs.declared.rows.AttrRow.TheVariants.{FileMode, DirMode, Link}

-- the modes that have no row: 0644 and 0755
abbrev pub file_mode : ℕ
file_mode = 420

abbrev pub dir_mode : ℕ
dir_mode = 493

-- at most 0777, and not the default
abbrev pub is_mode : ℕ → ℕ → Bool
is_mode default mode = nat_le mode 511 && not (mode == default)

-- a link's text: not empty, and without a NUL
abbrev pub is_link_text : List ℕ → Bool
is_link_text text = not (is_empty text) && not (list_any (λ b. b == 0) text)

-- what may be said of a path; no link is the root
abbrev pub suits : Text → AttrRow → Bool
suits path (FileMode mode) = is_mode file_mode mode
suits path (DirMode mode) = is_mode dir_mode mode
suits path (Link text) = is_link_text text && not (is_root path)

-- a canonical path, not at the hidden name or below it, and what may be said of it
abbrev pub is_row : Text × AttrRow → Bool
is_row row = is_canonical row.0 && not (is_within (join root hidden) row.0) && suits row.0 row.1

-- each path is above the one before
abbrev pub ascend_from : Text → List (Text × AttrRow) → Bool
ascend_from last [] = true
ascend_from last (row ∷ rows) = is_lt (text_cmp last row.0) && ascend_from row.0 rows

abbrev pub ascend : List (Text × AttrRow) → Bool
ascend [] = true
ascend (row ∷ rows) = ascend_from row.0 rows

-- rows, strictly ascending by path
unfoldable pub are_rows : List (Text × AttrRow) → Bool
are_rows rows = list_all is_row rows && ascend rows
