-- Cells by their numbers.
use Rattle.std.specs.Prelude.{ℕ, List, [], ◌∷◌, ◌++◌, Bool, if◌then◌else◌}
use Rattle.std.specs.List.{list_any, position_or_len}

module _ {Cell : Type 0} (same : Cell → Cell → Bool) where
  -- the number of the cell that is the same, or the next number
  abbrev pub number_in : List Cell → Cell → ℕ
  number_in cells cell = position_or_len (same cell) cells

  -- with a cell more, unless it is there
  abbrev pub with_cell : List Cell → Cell → List Cell
  with_cell cells cell = if list_any (same cell) cells then cells else cells ++ cell ∷ []
