-- What is known of a text of digits that `parse` refuses.
use Rattle.std.proofs.Common.{◌≡◌, ℕ, ◌<◌, ◌^◌, List, length, true, false, None, Err, arith, rules}
use Rattle.std.specs.List.{list_all}
use Rattle.std.specs.Char.{is_ascii_digit}
use Rattle.std.specs.Str.Parse.{ParsesUnsigned, digits_value}
use Rattle.std.proofs.lemmas.Bool.Decides.{nat_tests}
use Rattle.std.proofs.lemmas.Str.Parse.{IsNumeralModel, numerals_by_value, parse_digits}
use Rattle.rk_request.specs.Decimal.{is_decimal, is_within, number_of}

own : IsNumeralModel (λ ds. list_all is_ascii_digit ds ≡ true) (digits_value 10)
own = numerals_by_value _ (search rules)

all_digits : (most : ℕ) (text : List ℕ) → is_decimal most text ≡ true → list_all is_ascii_digit text ≡ true
all_digits most text decimal = grind (arith, nat_tests)

some_digit : (most : ℕ) (text : List ℕ) → is_decimal most text ≡ true → 0 < length text
some_digit most text decimal = grind (arith, nat_tests)

past : (low high n : ℕ) → high < n → is_within low high n ≡ false
past low high n above = grind (arith, nat_tests)

-- it writes a number above every bound of 64 bits
pub number-too_great : (E : Type 0) (most low high : ℕ) (text : List ℕ) (e : E) → high < 2 ^ 64 → is_decimal most text ≡ true
    → ParsesUnsigned 64 10 text (Err e) → number_of most low high text ≡ None
number-too_great E most low high text e fits decimal parsed =
    let refused = parse_digits own 64 text (Err e) parsed (all_digits most text decimal) in
    let not_read : digits_value 10 text < 2 ^ 64 → ⊥ = λ small. refused (some_digit most text decimal, small) in
    let above : high < digits_value 10 text = omega arith in
    rw (decimal, past low high (digits_value 10 text) above)
