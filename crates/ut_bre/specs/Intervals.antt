-- What an interval reads as (XBD 9.3.6).
use Rattle.std.specs.Prelude.{ℕ, ◌+◌, ◌-◌, ◌*◌, ◌==◌, ◌||◌, nat_lt, drop, [], ◌∷◌, Option, Some, None, if◌then◌else◌}
use Rattle.rk_base.specs.Text.{Text}
use Rattle.ut_bre.specs.declared.tree.Times.{Times}
use Rattle.sh_pattern.specs.Classes.{between}
use Rattle.ut_bre.specs.Sets.{begins}

-- one digit more; past 255 it is 256
abbrev pub more_digit : Option ℕ → ℕ → ℕ
more_digit None b = b - 48
more_digit (Some value) b = if nat_lt 255 (value * 10 + (b - 48)) then 256 else value * 10 + (b - 48)

-- the number that digits spell, and how many they are
abbrev pub number_from : Option ℕ → ℕ → Text → Option ℕ × ℕ
number_from value size [] = (value, size)
number_from value size (b ∷ rest) = if between 48 57 b then number_from (Some (more_digit value b)) (size + 1) rest else (value, size)

-- m at most n, at most 255; None where the interval is wrong
abbrev pub turns : ℕ → Option ℕ → Option Times
turns least None = if nat_lt 255 least then None else Some (record { least = least; beyond = None })
turns least (Some most) = if nat_lt 255 most || nat_lt most least then None else Some (record { least = least; beyond = Some (most - least) })

abbrev pub interval_end : Option Times → ℕ → Text → Option (Times × ℕ)
interval_end None size rest = None
interval_end (Some times) size rest = if begins 92 125 rest then Some (times, size + 2) else None

abbrev pub interval_most : ℕ → ℕ → Text → Option ℕ × ℕ → Option (Times × ℕ)
interval_most least size rest most = interval_end (turns least most.0) (size + 1 + most.1) (drop most.1 rest)

abbrev pub interval_comma : ℕ → ℕ → Text → Option (Times × ℕ)
interval_comma least size [] = None
interval_comma least size (b ∷ rest) = if b == 44 then interval_most least size rest (number_from None 0 rest) else interval_end (turns least (Some least)) size (b ∷ rest)

abbrev pub interval_least : Option ℕ → ℕ → Text → Option (Times × ℕ)
interval_least None size text = None
interval_least (Some least) size text = interval_comma least size (drop size text)

-- what stands behind a `\{`, and how many bytes it takes
abbrev pub interval_at : Text → Option (Times × ℕ)
interval_at text = interval_least (number_from None 0 text).0 (number_from None 0 text).1 text
