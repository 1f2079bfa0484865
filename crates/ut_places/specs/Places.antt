-- Sets of places of a line.
use Rattle.std.specs.Prelude.{◌≡◌, ℕ, ◌-◌, ◌/◌, ◌%◌, ◌≤◌, ◌<◌, Option, Some, None, nat_lt, slice_index, if◌then◌else◌}
use Rattle.std.specs.Int.{bit_at}
use Rattle.ut_places.specs.declared.places.Places.{Places}

-- one of the words of a set, with no place in those before its own
abbrev pub word_at : Places → ℕ → ℕ
word_at set k = if nat_lt k set.before then 0 else slice_index set.words.items (k - set.before)

-- the bit of a place in words of 64
abbrev pub bit_of : Places → ℕ → ℕ
bit_of set j = bit_at (word_at set (j / 64)) (j % 64)

-- a set has a place
abbrev pub Has : Places → ℕ → Type 0
Has set j = bit_of set j ≡ 1

-- the first place of a set from one place on and before another one; None where there is none
abbrev pub IsNext : Places → ℕ → ℕ → Option ℕ → Type 0
IsNext set from end None = (j : ℕ) → from ≤ j → j < end → Has set j → ⊥
IsNext set from end (Some at) = (from ≤ at) × (at < end) × Has set at × ((j : ℕ) → from ≤ j → j < at → Has set j → ⊥)

-- the last place of a set before an end; None where there is none
abbrev pub IsLast : Places → ℕ → Option ℕ → Type 0
IsLast set end None = (j : ℕ) → j < end → Has set j → ⊥
IsLast set end (Some at) = (at < end) × Has set at × ((j : ℕ) → j < end → Has set j → j ≤ at)
