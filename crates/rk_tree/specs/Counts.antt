-- Counts of faults, which stop at their last value.
use Rattle.std.specs.Prelude.{◌≡◌, ◌≤◌, ◌<◌, ◌+◌, ◌-◌, ◌^◌, min, ℕ}

-- a number of calls and one more, up to the last value
abbrev pub one_more : ℕ → ℕ
one_more calls = min (calls + 1) (2 ^ 64 - 1)

-- a count that doesn't fall has risen, or stands at its last value
abbrev pub Rose : ℕ → ℕ → Type 0
Rose before now = one_more before ≤ now

-- a count hasn't risen, and doesn't stand at its last value
abbrev pub Still : ℕ → ℕ → Type 0
Still before now = (now ≡ before) × (before < 2 ^ 64 - 1)
