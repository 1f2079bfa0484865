-- What `test` decides by its operands alone (XCU 4, `test`).
use Rattle.std.specs.Prelude.{List, [], ◌∷◌, codes, Bool, false, not, Option, Some, None, if◌then◌else◌}
use Rattle.rk_base.specs.Text.{Text, same_text}
use Rattle.rk_base.specs.Canonical.{is_empty}
use Rattle.sh_operands.specs.declared.number.Number.{Number}
use Rattle.sh_operands.specs.declared.primary.Primary.{Primary}
use Rattle.sh_operands.specs.declared.primary.Primary.TheVariants as primary
use Rattle.sh_operands.specs.declared.primary.Operator.{Operator}
use Rattle.sh_operands.specs.declared.primary.Operator.TheVariants as operator
use Rattle.sh_operands.specs.declared.verdict.Verdict.{Verdict}
use Rattle.sh_operands.specs.declared.verdict.Verdict.TheVariants.{Holds, Asks, Misused}
use Rattle.sh_operands.specs.Numbers.{number}
use Rattle.sh_operands.specs.Primaries.{primary_of, operator_of, relates}

abbrev pub is_bang : Text → Bool
is_bang word = same_text word (codes "!")

-- true becomes false, and false true
abbrev pub negated : Verdict → Verdict
negated (Holds b) = Holds (not b)
negated (Asks p operand inverted) = Asks p operand (not inverted)
negated (Misused word) = Misused word

-- one operand: whether it isn't empty
abbrev pub one : Text → Verdict
one x = Holds (not (is_empty x))

-- a primary and its operand
abbrev pub unary : Option Primary → Text → Text → Verdict
unary None op x = Misused op
unary (Some primary.HasBytes) op x = Holds (not (is_empty x))
unary (Some primary.Empty) op x = Holds (is_empty x)
unary (Some p) op x = Asks p x false

-- two: `!` and one, or a primary and its operand
abbrev pub two : Text → Text → Verdict
two op x = if is_bang op then negated (one x) else unary (primary_of op) op x

-- the first operand that is no number is told
abbrev pub compares : Operator → Text → Text → Option Number → Option Number → Verdict
compares op a b None n = Misused a
compares op a b (Some m) None = Misused b
compares op a b (Some m) (Some n) = Holds (relates op m n)

abbrev pub binary : Option Operator → Text → Text → Text → Verdict
binary None a op b = if is_bang a then negated (two op b) else Misused op
binary (Some operator.Same) a op b = Holds (same_text a b)
binary (Some operator.Differs) a op b = Holds (not (same_text a b))
binary (Some o) a op b = compares o a b (number a) (number b)

-- three: an operator between two, or `!` and two
abbrev pub three : Text → Text → Text → Verdict
three a op b = binary (operator_of op) a op b

-- four: `!` and three
abbrev pub four : Text → Text → Text → Text → Verdict
four a b c d = if is_bang a then negated (three b c d) else Misused a

-- by the number of operands; none is false, and of five or more the fifth is told
abbrev pub decides : List Text → Verdict
decides [] = Holds false
decides (a ∷ []) = one a
decides (a ∷ b ∷ []) = two a b
decides (a ∷ b ∷ c ∷ []) = three a b c
decides (a ∷ b ∷ c ∷ d ∷ []) = four a b c d
decides (a ∷ b ∷ c ∷ d ∷ e ∷ more) = Misused e
