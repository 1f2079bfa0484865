-- Arithmetic expansion (XCU 2.6.4).
use Rattle.std.specs.Prelude.{ℕ, ◌==◌, ◌||◌, [], ◌∷◌, codes, Bool, if◌then◌else◌}
use Rattle.std.specs.List.{prefix_len}
use Rattle.std.specs.Prelude.{drop}
use Rattle.rk_base.specs.Text.{Text}
use Rattle.sh_arith.specs.declared.error.ArithErr.{ArithErr}
use Rattle.sh_arith.specs.declared.error.ArithErr.TheVariants as err
use Rattle.sh_arith.specs.Environment.{Environment}
use Rattle.sh_vars.specs.Held.{Held, value_at, is_readonly, assigned}

-- the variables, as an expression reads and assigns them
abbrev pub variables_in : Held → Environment Held
variables_in held = record { state = held; value = value_at; readonly = is_readonly; with_value = assigned }

-- a text without the blanks at its ends
abbrev pub is_blank : ℕ → Bool
is_blank b = b == 32 || b == 9

abbrev pub before_end : ℕ → Text → Text
before_end b [] = if is_blank b then [] else b ∷ []
before_end b (c ∷ cs) = b ∷ (c ∷ cs)

abbrev pub without_last_blanks : Text → Text
without_last_blanks [] = []
without_last_blanks (b ∷ bs) = before_end b (without_last_blanks bs)

abbrev pub without_first_blanks : Text → Text
without_first_blanks text = drop (prefix_len is_blank text) text

abbrev pub trimmed : Text → Text
trimmed text = without_last_blanks (without_first_blanks text)

-- what a fault is told of: the expression, or the name that it comes from
abbrev pub told_of : Text → ArithErr → Text
told_of text (err.Syntax at) = trimmed text
told_of text err.Overflow = trimmed text
told_of text err.ZeroDivisor = trimmed text
told_of text (err.Name x) = x
told_of text (err.Unset x) = x
told_of text (err.Readonly x) = x
told_of text err.NoMemory = []

abbrev pub words_of : ArithErr → Text
words_of (err.Syntax at) = codes "not an expression"
words_of err.Overflow = codes "overflow"
words_of err.ZeroDivisor = codes "zero divisor"
words_of (err.Name x) = codes "not a number"
words_of (err.Unset x) = codes "not set"
words_of (err.Readonly x) = codes "readonly"
words_of err.NoMemory = []

-- want of memory is told of by no words
abbrev pub IsTold : ArithErr → Type 0
IsTold err.NoMemory = ⊥
IsTold fault = Unit {0}
