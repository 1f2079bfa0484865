-- Cells by their numbers, with more behind them.
use Rattle.std.specs.Prelude.{◌≡◌, List, Bool, true}
use Rattle.std.specs.List.{list_any}
use Rattle.rk_waves.specs.CellNumbers.{number_in}

-- what had a number has it still
pub record Grown {Cell : Type 0} (same : Cell → Cell → Bool) (old new : List Cell) : Type 0 where
  pub stands : (c : Cell) → list_any (same c) old ≡ true → list_any (same c) new ≡ true
  pub number : (c : Cell) → list_any (same c) old ≡ true → number_in same new c ≡ number_in same old c
