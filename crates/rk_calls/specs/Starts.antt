-- The count of starts.
use Rattle.std.specs.Prelude.{◌≡◌, ℕ, ◌+◌, ◌-◌, ◌^◌, min, Result, Ok, Err}

-- one more, but for the largest value, at which it stays
abbrev pub one_more : ℕ → ℕ
one_more n = min (n + 1) (2 ^ 64 - 1)

-- each start counts once
abbrev pub CountsOne : {T E : Type 0} → ℕ → ℕ → Result T E → Type 0
CountsOne before now (Ok it) = now ≡ one_more before
CountsOne before now (Err e) = now ≡ before
