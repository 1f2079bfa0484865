-- Numbers as arguments.
use Rattle.std.specs.Prelude.{ℕ, ◌+◌, ◌-◌, ◌*◌, [], ◌∷◌, Option, Some, None}
use Rattle.rk_base.specs.Text.{Text}

-- the number that digits go on to spell
abbrev pub number_from : ℕ → Text → ℕ
number_from n [] = n
number_from n (b ∷ bs) = number_from (n * 10 + (b - 48)) bs

-- the number that digits spell
abbrev pub number : Text → ℕ
number = number_from 0

abbrev pub number_or : ℕ → Option Text → ℕ
number_or n None = n
number_or n (Some text) = number text
