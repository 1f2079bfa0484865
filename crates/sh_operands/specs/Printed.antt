-- What `printf` makes of the pieces of a format and operands (XCU 4, `printf`).
use Rattle.std.specs.Prelude.{ℕ, ◌+◌, ◌-◌, List, [], ◌∷◌, ◌++◌, codes, take, drop, replicate, length, slice_get, Bool, true, false, not, ◌&&◌, Option, Some, None, if◌then◌else◌}
use Rattle.std.specs.Fmt.{digits, decimal}
use Rattle.rk_base.specs.Text.{Text}
use Rattle.sh_operands.specs.declared.format.Specifier.{Specifier}
use Rattle.sh_operands.specs.declared.format.Specifier.TheVariants as specifier
use Rattle.sh_operands.specs.declared.format.Conversion.{Conversion}
use Rattle.sh_operands.specs.declared.format.Piece.{Piece}
use Rattle.sh_operands.specs.declared.format.Piece.TheVariants.{Literal, Converted}
use Rattle.sh_operands.specs.declared.number.Number.{Number}
use Rattle.sh_operands.specs.Elements.{specifier_takes}
use Rattle.sh_operands.specs.Made.{MadeValue, with_text, with_bad}
use Rattle.sh_operands.specs.Numbers.{number}

-- Widths.

-- blanks fill a text to its width, at its end where `-` is given
abbrev pub padded : Bool → ℕ → Text → Text
padded true width text = text ++ replicate (width - length text) 32
padded false width text = replicate (width - length text) 32 ++ text

-- zeros fill a number behind its sign, where `0` is given and `-` isn't
abbrev pub zero_filled : ℕ → Text → Text → Text
zero_filled width sign ds = sign ++ replicate (width - (length sign + length ds)) 48 ++ ds

abbrev pub filled : Conversion → Text → Text → Text
filled c sign ds = if c.zero && not c.left then zero_filled c.width sign ds else padded c.left c.width (sign ++ ds)

-- Numbers.

abbrev pub nought : Number
nought = record { negative = false; magnitude = 0 }

abbrev pub or_nought : Option Number → Number
or_nought None = nought
or_nought (Some n) = n

-- a missing operand is 0, and so is one that is no number
abbrev pub number_in : Option Text → Number
number_in None = nought
number_in (Some word) = or_nought (number word)

abbrev pub is_none : {A : Type 0} → Option A → Bool
is_none None = true
is_none (Some a) = false

-- one that is no number is told
abbrev pub with_bad_in : Option Text → MadeValue → MadeValue
with_bad_in None made = made
with_bad_in (Some word) made = if is_none (number word) then with_bad word made else made

abbrev pub sign_of : Number → Text
sign_of n = if n.negative then 45 ∷ [] else []

-- in 64 bits: 2^64 less the magnitude of a negative number
abbrev pub in_64_bits : Number → ℕ
in_64_bits n = if n.negative then 18446744073709551615 - (n.magnitude - 1) else n.magnitude

-- Conversions.

abbrev pub text_in : Option Text → Text
text_in None = []
text_in (Some word) = word

abbrev pub converted : Specifier → Conversion → Option Text → Text
converted specifier.Text c operand = padded c.left c.width (text_in operand)
converted specifier.Byte c operand = padded c.left c.width (take 1 (text_in operand))
converted specifier.Percent c operand = padded c.left c.width (codes "%")
converted specifier.Decimal c operand = filled c (sign_of (number_in operand)) (decimal (number_in operand).magnitude)
converted specifier.Octal c operand = filled c [] (digits 8 false (in_64_bits (number_in operand)))
converted specifier.Hexadecimal c operand = filled c [] (digits 16 false (in_64_bits (number_in operand)))

abbrev pub is_numeric : Specifier → Bool
is_numeric specifier.Decimal = true
is_numeric specifier.Octal = true
is_numeric specifier.Hexadecimal = true
is_numeric k = false

abbrev pub noted : Conversion → Option Text → MadeValue → MadeValue
noted c operand made = if is_numeric c.specifier then with_bad_in operand made else made

abbrev pub converts : Conversion → Option Text → MadeValue → MadeValue
converts c operand made = with_text (converted c.specifier c operand) (noted c operand made)

-- the format once, from these operands on; each conversion takes the next operand, or none where there is none left
abbrev pub pass : List Piece → List Text → MadeValue → MadeValue
pass [] operands made = made
pass (Literal b ∷ ps) operands made = pass ps operands (with_text (b ∷ []) made)
pass (Converted c ∷ ps) operands made =
    if specifier_takes c.specifier then pass ps (drop 1 operands) (converts c (slice_get operands 0) made) else pass ps operands (converts c None made)
