-- A budget: its limit and what was paid of it, in turns.
use Rattle.std.specs.Prelude.{ℕ}

pub record Paid : Type 0 where
  pub limit : ℕ
  pub used : ℕ
