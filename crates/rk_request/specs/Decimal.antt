-- Decimal numbers on the command line.
use Rattle.std.specs.Prelude.{ℕ, List, Bool, ◌&&◌, Option, Some, None, length, nat_lt, nat_le, if◌then◌else◌}
use Rattle.std.specs.List.{list_all}
use Rattle.std.specs.Char.{is_ascii_digit}
use Rattle.std.specs.Str.Parse.{digits_value}

-- from one to so many digits and nothing else; a digit 0 may stand first
abbrev pub is_decimal : ℕ → List ℕ → Bool
is_decimal most text = (nat_lt 0 (length text) && nat_le (length text) most) && list_all is_ascii_digit text

abbrev pub is_within : ℕ → ℕ → ℕ → Bool
is_within low high n = nat_le low n && nat_le n high

-- the number that a text of at most so many digits writes, where it lies from `low` to `high`
abbrev pub number_of : (most low high : ℕ) → List ℕ → Option ℕ
number_of most low high text =
    if is_decimal most text && is_within low high (digits_value 10 text) then Some (digits_value 10 text) else None
