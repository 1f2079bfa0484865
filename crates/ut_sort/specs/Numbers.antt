-- Numbers of any length.
use Rattle.std.specs.Prelude.{ℕ, [], ◌∷◌, length, Bool, true, false, ◌==◌, if◌then◌else◌}
use Rattle.std.specs.Ordering.{nat_cmp, then_cmp, on, flip_args}
use Rattle.std.specs.declared.cmp.Ordering.{Ordering}
use Rattle.rk_base.specs.Text.{Text, text_cmp}
use Rattle.ut_sort.specs.declared.runs.ByteClass.TheVariants.{Blank, Digit, Zero}
use Rattle.ut_sort.specs.Runs.{front, rest}

-- a number without its sign: its digits without zeros in front, and those of its fraction without zeros at the end
pub record SizeValue : Type 0 where
  pub whole : Text
  pub fraction : Text

abbrev pub nothing : SizeValue
nothing = record { whole = []; fraction = [] }

-- a number: whether it is below zero, and its size
pub record NumberValue : Type 0 where
  pub negative : Bool
  pub size : SizeValue

-- a digit before others that have no zeros at the end
abbrev pub before_trimmed : ℕ → Text → Text
before_trimmed b [] = if b == 48 then [] else b ∷ []
before_trimmed b (c ∷ cs) = b ∷ c ∷ cs

-- without the zeros at the end
abbrev pub trimmed : Text → Text
trimmed [] = []
trimmed (b ∷ bs) = before_trimmed b (trimmed bs)

-- the digits after a period
abbrev pub fraction_of : Text → Text
fraction_of [] = []
fraction_of (b ∷ bs) = if b == 46 then trimmed (front Digit bs) else []

abbrev pub size_of : Text → SizeValue
size_of text = record { whole = rest Zero (front Digit text); fraction = fraction_of (rest Digit text) }

-- after a minus, where there is one
abbrev pub signed : Text → NumberValue
signed [] = record { negative = false; size = nothing }
signed (b ∷ bs) = if b == 45 then record { negative = true; size = size_of bs } else record { negative = false; size = size_of (b ∷ bs) }

-- blanks, a minus, digits, a period and digits; each may be missing, and what isn't there is zero
abbrev pub number_of : Text → NumberValue
number_of text = signed (rest Blank text)

-- The one of more digits is greater, then the one whose digits are, then the one whose fraction is.
abbrev pub size_cmp : SizeValue → SizeValue → Ordering
size_cmp = then_cmp (on (λ (s : SizeValue). length s.whole) nat_cmp) (then_cmp (on (λ (s : SizeValue). s.whole) text_cmp) (on (λ (s : SizeValue). s.fraction) text_cmp))

-- how far a number is above zero, and how far below it
abbrev pub above : NumberValue → SizeValue
above n = if n.negative then nothing else n.size

abbrev pub below : NumberValue → SizeValue
below n = if n.negative then n.size else nothing

abbrev pub number_cmp : NumberValue → NumberValue → Ordering
number_cmp = then_cmp (on above size_cmp) (on below (flip_args size_cmp))

-- texts by the numbers that they begin with
abbrev pub value_cmp : Text → Text → Ordering
value_cmp = on number_of number_cmp
