-- Which tokens an expression is. Precedence is a level for each kind of expression (C 6.5.1 to 6.5.16): an operand has
-- at least the level that its place asks for.
use Rattle.std.specs.Prelude.{◌≡◌, ℕ, zero, suc, ◌≤◌, ◌<◌, List, [], ◌∷◌, ◌++◌, map}
use Rattle.rk_base.specs.Text.{Text}
use Rattle.sh_arith.specs.declared.operator.Operator.{Operator}
use Rattle.sh_arith.specs.declared.operator.Operator.TheVariants as operator
use Rattle.sh_arith.specs.declared.operator.Sign.{Sign}
use Rattle.sh_arith.specs.declared.operator.Sign.TheVariants as sign
use Rattle.sh_arith.specs.declared.token.Token.{Token}
use Rattle.sh_arith.specs.declared.token.Token.TheVariants as token
use Rattle.sh_arith.specs.Expression.{Expression, Constant, Name, Group, Signed, Applied, Both, Either, Choice, Assignment}
use Rattle.sh_arith.specs.Tokens.{Placed, AreTokens}

abbrev pub operator_level : Operator → ℕ
operator_level operator.Times = 11
operator_level operator.Over = 11
operator_level operator.Remainder = 11
operator_level operator.Plus = 10
operator_level operator.Minus = 10
operator_level operator.ShiftLeft = 9
operator_level operator.ShiftRight = 9
operator_level operator.Less = 8
operator_level operator.AtMost = 8
operator_level operator.Greater = 8
operator_level operator.AtLeast = 8
operator_level operator.Equal = 7
operator_level operator.Differs = 7
operator_level operator.And = 6
operator_level operator.ExclusiveOr = 5
operator_level operator.Or = 4

abbrev pub level : Expression → ℕ
level (Constant n) = 13
level (Name x) = 13
level (Group a) = 13
level (Signed s a) = 12
level (Applied o a b) = operator_level o
level (Both a b) = 3
level (Either a b) = 2
level (Choice c a b) = 1
level (Assignment n x o a) = 0

-- operators between two operands group from the left, signs, `?:` and assignments from the right
abbrev pub IsProper : Expression → Type 0
IsProper (Constant n) = Unit {0}
IsProper (Name x) = Unit {0}
IsProper (Group a) = IsProper a
IsProper (Signed s a) = (12 ≤ level a) × IsProper a
IsProper (Applied o a b) = (operator_level o ≤ level a) × (operator_level o < level b) × IsProper a × IsProper b
IsProper (Both a b) = (3 ≤ level a) × (3 < level b) × IsProper a × IsProper b
IsProper (Either a b) = (2 ≤ level a) × (2 < level b) × IsProper a × IsProper b
IsProper (Choice c a b) = (2 ≤ level c) × (1 ≤ level b) × IsProper c × IsProper a × IsProper b
IsProper (Assignment n x o a) = IsProper a

abbrev pub sign_token : Sign → Token
sign_token sign.Plus = token.Operator operator.Plus
sign_token sign.Minus = token.Operator operator.Minus
sign_token sign.Complement = token.Complement
sign_token sign.Not = token.Not

-- as many of a token, before others
abbrev pub times : ℕ → Token → List Token → List Token
times zero t after = after
times (suc n) t after = t ∷ times n t after

-- the tokens of an expression, before others
unfoldable pub spelled : Expression → List Token → List Token
spelled (Constant n) after = token.Constant n ∷ after
spelled (Name x) after = token.Name x ∷ after
spelled (Group a) after = token.Open ∷ spelled a (token.Close ∷ after)
spelled (Signed s a) after = sign_token s ∷ spelled a after
spelled (Applied o a b) after = spelled a (token.Operator o ∷ spelled b after)
spelled (Both a b) after = spelled a (token.Both ∷ spelled b after)
spelled (Either a b) after = spelled a (token.Either ∷ spelled b after)
spelled (Choice c a b) after = spelled c (token.Question ∷ spelled a (token.Colon ∷ spelled b after))
spelled (Assignment n x o a) after = times n token.Open (token.Name x ∷ times n token.Close (token.Assign o ∷ spelled a after))

abbrev pub Spells : Expression → List Token → Type 0
Spells x ts = IsProper x × (ts ≡ spelled x (token.End ∷ []))

-- some expression begins with these tokens
abbrev pub Continues : List Token → Type 0
Continues ts = (x : Expression) × (after : List Token) × Spells x (ts ++ after)

abbrev pub tokens_of : List Placed → List Token
tokens_of = map (λ (t : Placed). t.token)

-- a text is an expression
abbrev pub Is : Text → Expression → Type 0
Is text x = (ts : List Placed) × AreTokens 0 text ts × Spells x (tokens_of ts)

-- at a place stands the first token with which no expression continues
abbrev pub Stops : Text → ℕ → Type 0
Stops text at =
    (before : List Placed) × (t : Placed) × (after : List Placed) × AreTokens 0 text (before ++ t ∷ after)
    × (t.at ≡ at) × Continues (tokens_of before) × (Continues (tokens_of before ++ t.token ∷ []) → ⊥)
