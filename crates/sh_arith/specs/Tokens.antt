-- The tokens of a text (C 6.4): at each place, behind white space, the longest. What is none of C's is Odd. The end of
-- the text is a token too, and nothing is read behind it or behind what is Odd.
use Rattle.std.specs.Prelude.{◌≡◌, ℕ, ◌+◌, ◌==◌, ℤ, List, [], ◌∷◌, drop, take, Bool, true, false, ◌||◌, Option, Some, None, if◌then◌else◌}
use Rattle.std.specs.List.{prefix_len}
use Rattle.rk_base.specs.Text.{Text}
use Rattle.rk_base.specs.Variables.{is_between, is_start, is_more}
use Rattle.sh_arith.specs.declared.operator.Operator.{Operator}
use Rattle.sh_arith.specs.declared.operator.Operator.TheVariants.{Times, Over, Remainder, Plus, Minus, ShiftLeft, ShiftRight, Less, AtMost, Greater, AtLeast, Equal, Differs, And, ExclusiveOr, Or}
use Rattle.sh_arith.specs.declared.token.Token.{Token}
use Rattle.sh_arith.specs.declared.token.Token.TheVariants as token
use Rattle.sh_arith.specs.Constants.{constant, plain, fitted}

-- C's white space
abbrev pub is_space : ℕ → Bool
is_space b = b == 32 || is_between 9 13 b

abbrev pub spaces : Text → ℕ
spaces = prefix_len is_space

-- how many letters, digits and `_` stand first
abbrev pub word_length : Text → ℕ
word_length = prefix_len is_more

abbrev pub constant_token : Option (Option ℤ) → Token
constant_token None = token.Odd
constant_token (Some n) = token.Constant n

abbrev pub word_token : ℕ → Text → Token
word_token b word = if is_start b then token.Name word else constant_token (fitted (plain (constant word)))

-- a token, and its length
abbrev pub Lexeme : Type 0
Lexeme = Token × ℕ

abbrev pub or_assign : Operator → ℕ → Lexeme
or_assign o b = if b == 61 then (token.Assign (Some o), 2) else (token.Operator o, 1)

abbrev pub or_equal : ℕ → Operator → Token → Lexeme
or_equal b equal alone = if b == 61 then (token.Operator equal, 2) else (alone, 1)

abbrev pub or_double : ℕ → ℕ → Token → Operator → Lexeme
or_double a b double alone = if b == a then (double, 2) else or_assign alone b

-- `<<`, `<=`, `<`, and `<<=`; and those of `>`
abbrev pub angle : ℕ → ℕ → ℕ → Operator → Operator → Operator → Lexeme
angle a b c shift equal alone =
    if b == a
    then (if c == 61 then (token.Assign (Some shift), 3) else (token.Operator shift, 2))
    else (if b == 61 then (token.Operator equal, 2) else (token.Operator alone, 1))

-- by the byte and the two behind it
abbrev pub punctuator : ℕ → ℕ → ℕ → Lexeme
punctuator a b c =
    if a == 40 then (token.Open, 1) else
    (if a == 41 then (token.Close, 1) else
    (if a == 63 then (token.Question, 1) else
    (if a == 58 then (token.Colon, 1) else
    (if a == 126 then (token.Complement, 1) else
    (if a == 33 then or_equal b Differs token.Not else
    (if a == 61 then or_equal b Equal (token.Assign None) else
    (if a == 60 then angle 60 b c ShiftLeft AtMost Less else
    (if a == 62 then angle 62 b c ShiftRight AtLeast Greater else
    (if a == 38 then or_double 38 b token.Both And else
    (if a == 124 then or_double 124 b token.Either Or else
    (if a == 94 then or_assign ExclusiveOr b else
    (if a == 42 then or_assign Times b else
    (if a == 47 then or_assign Over b else
    (if a == 37 then or_assign Remainder b else
    (if a == 43 then or_assign Plus b else
    (if a == 45 then or_assign Minus b else (token.Odd, 1)))))))))))))))))

-- the byte in front, 0 where there is none
abbrev pub front : Text → ℕ
front [] = 0
front (b ∷ bs) = b

-- the token at a place without white space
abbrev pub lexeme : Text → Lexeme
lexeme [] = (token.End, 0)
lexeme (b ∷ bs) =
    if is_more b
    then (word_token b (take (word_length (b ∷ bs)) (b ∷ bs)), word_length (b ∷ bs))
    else punctuator b (front bs) (front (drop 1 bs))

-- a token with its place
pub record Placed : Type 0 where
  pub token : Token
  pub at : ℕ

abbrev pub is_last : Token → Bool
is_last token.End = true
is_last token.Odd = true
is_last t = false

-- the token that stands first in what is left at a place; what is left behind it, and where
abbrev pub next_token : Text → Token
next_token text = (lexeme (drop (spaces text) text)).0

abbrev pub next_place : ℕ → Text → ℕ
next_place at text = at + spaces text

abbrev pub next_end : Text → ℕ
next_end text = spaces text + (lexeme (drop (spaces text) text)).1

-- nothing behind the last
abbrev pub AreBehind : Bool → List Placed → Type 0 → Type 0
AreBehind true ts Rest = ts ≡ []
AreBehind false ts Rest = Rest

-- these are the tokens of what is left at a place
abbrev pub AreTokens : ℕ → Text → List Placed → Type 0
AreTokens at text [] = ⊥
AreTokens at text (t ∷ ts) =
    (t.token ≡ next_token text) × (t.at ≡ next_place at text) × AreBehind (is_last t.token) ts (AreTokens (at + next_end text) (drop (next_end text) text) ts)
