-- Bits, eight to a byte.
use Rattle.std.specs.Prelude.{ℕ, zero, suc, ◌/◌, ◌%◌, ◌==◌, List, [], ◌∷◌, ◌++◌, Bool}

-- the lowest so many bits of a number, the highest of them first
abbrev pub bits : ℕ → ℕ → List Bool
bits zero n = []
bits (suc k) n = bits k (n / 2) ++ (n % 2 == 1) ∷ []

-- the bits of bytes, one byte after another
abbrev pub all_bits : List ℕ → List Bool
all_bits [] = []
all_bits (b ∷ bs) = bits 8 b ++ all_bits bs
