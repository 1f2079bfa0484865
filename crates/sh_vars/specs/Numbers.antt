-- Local numbers, by which a command names what it opened.
use Rattle.std.specs.Prelude.{ℕ, ◌+◌, ◌-◌, ◌^◌, min}

-- The number after this one. The largest number of 64 bits stands for each above it too; a command that gets there has opened
-- as many descriptors, each by a call that a turn was paid for, and a build has fewer than 2^32 turns.
abbrev pub number_after : ℕ → ℕ
number_after n = min (n + 1) (2 ^ 64 - 1)
