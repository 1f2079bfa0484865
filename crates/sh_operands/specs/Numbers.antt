-- Numbers: an optional sign and decimal digits, in 64 bits.
use Rattle.std.specs.Prelude.{ℕ, ◌+◌, ◌-◌, ◌*◌, ◌==◌, [], ◌∷◌, Bool, true, false, not, ◌&&◌, Option, Some, None, if◌then◌else◌, nat_le, nat_lt}
use Rattle.std.specs.List.{list_all}
use Rattle.rk_base.specs.Text.{Text}
use Rattle.rk_base.specs.Canonical.{is_empty}
use Rattle.rk_base.specs.Variables.{is_between}
use Rattle.sh_operands.specs.declared.number.Number.{Number}

abbrev pub is_digit : ℕ → Bool
is_digit b = is_between 48 57 b

-- the number that decimal digits write behind those that write n
abbrev pub value_on : ℕ → Text → ℕ
value_on n [] = n
value_on n (b ∷ bs) = value_on (10 * n + (b - 48)) bs

abbrev pub no_more : ℕ → ℕ → Option ℕ
no_more most n = if nat_le n most then Some n else None

-- at least one decimal digit, and a number of no more than this
abbrev pub digits_to : ℕ → Text → Option ℕ
digits_to most text = if not (is_empty text) && list_all is_digit text then no_more most (value_on 0 text) else None

-- -0 is 0
abbrev pub signed : Bool → Option ℕ → Option Number
signed negative None = None
signed negative (Some n) = Some (record { negative = negative && not (n == 0); magnitude = n })

-- from -2^63 to 2^63 - 1
abbrev pub number : Text → Option Number
number [] = None
number (b ∷ bs) =
    if b == 45
    then signed true (digits_to 9223372036854775808 bs)
    else (if b == 43 then signed false (digits_to 9223372036854775807 bs) else signed false (digits_to 9223372036854775807 (b ∷ bs)))

-- the order of integers
abbrev pub is_less : Number → Number → Bool
is_less m n =
    if m.negative then (if n.negative then nat_lt n.magnitude m.magnitude else true) else (if n.negative then false else nat_lt m.magnitude n.magnitude)
