-- Loops are counted far enough for `break` and `continue`.
use Rattle.std.specs.Prelude.{◌≡◌, ℕ, ◌+◌, ◌-◌, ◌^◌, ◌<◌, min}
use Rattle.sh_means.specs.declared.flow.Place.{Place}
use Rattle.sh_means.specs.Flows.{deeper, break_of, continue_of}

-- a place inside of d loops, which it counts as far as 64 bits go
abbrev pub IsInside : ℕ → Place → Type 0
IsInside d pl = pl.loops ≡ min d (2 ^ 64 - 1)

-- one loop deeper it is inside of one more
abbrev pub EachCounts : Type 0
EachCounts = (pl : Place) (d : ℕ) → IsInside d pl → IsInside (d + 1) (deeper pl)

-- A `break` and a `continue` of a number of 64 bits do there what they would do if all of the loops were counted.
abbrev pub EachLeaves : Type 0
EachLeaves = (pl : Place) (d n : ℕ) → IsInside d pl → n < 2 ^ 64 → (break_of n pl.loops ≡ break_of n d) × (continue_of n pl.loops ≡ continue_of n d)
