-- What the profile leaves out of bracket expressions: collating symbols, as `[.x.]`, and equivalence classes, as `[=x=]` (XBD 9.3.5).
use Rattle.std.specs.Prelude.{◌≡◌, ℕ, zero, suc, ◌+◌, ◌<◌, ◌==◌, nat_lt, List, [], ◌∷◌, drop, length, slice_index, Bool, false, if◌then◌else◌, Option, Some, None}
use Rattle.sh_rules.specs.declared.token_kind.TokenKind.{TokenKind}
use Rattle.sh_rules.specs.declared.token_kind.TokenKind.TheVariants as k
use Rattle.sh_token.specs.declared.bytes.Class.{Class}
use Rattle.sh_token.specs.declared.bytes.Class.TheVariants as cl
use Rattle.sh_token.specs.Bytes.{◌or◌, ◌also◌, not_so, is_name}
use Rattle.sh_token.specs.Folded.{folded, run, one_if}
use Rattle.sh_token.specs.Expansions.{is_dollar}
use Rattle.sh_token.specs.Tokens.{Look, token}

-- a text begins with the first two bytes of one
abbrev pub begins_symbol : List ℕ → Bool
begins_symbol text = slice_index text 0 == 91 also (slice_index text 1 == 46 or slice_index text 1 == 61)

-- A `]` stands among the unquoted bytes in front of a text: those of a class, and dollar signs that begin nothing.
abbrev pub closes_bracket : (ℕ → Bool) → List ℕ → Bool
closes_bracket f [] = false
closes_bracket f (c ∷ cs) = (f c or is_dollar (c ∷ cs)) also (c == 93 or closes_bracket f cs)

-- one stands in front, in a bracket that is closed
abbrev pub has_symbol : (ℕ → Bool) → List ℕ → Bool
has_symbol f text = begins_symbol text also closes_bracket f text

-- a character class, as `[:alpha:]`: its first two bytes, how many its name has, and the two behind so many
abbrev pub begins_class : List ℕ → Bool
begins_class text = slice_index text 0 == 91 also slice_index text 1 == 58

abbrev pub class_name : List ℕ → ℕ
class_name text = run is_name (drop 2 text)

abbrev pub ends_class : ℕ → List ℕ → Bool
ends_class n text = slice_index text (n + 2) == 58 also slice_index text (n + 3) == 93

-- how many bytes one has behind its `[`, 0 where none begins there
abbrev pub class_rest : List ℕ → ℕ
class_rest text = if (begins_class text also ends_class (class_name text) text) then class_name text + 3 else 0

-- how many bytes behind a bracket's `[` close nothing: the `!` that negates it, and a `]` as its first item
abbrev pub item_first : List ℕ → ℕ
item_first text = if slice_index text 0 == 93 then 1 else 0

abbrev pub items_begin : List ℕ → ℕ
items_begin text = if slice_index text 0 == 33 then suc (item_first (drop 1 text)) else item_first text

-- what is left of the bytes that close nothing: a character class begins behind them
abbrev pub passed_on : ℕ → List ℕ → ℕ
passed_on zero text = class_rest text
passed_on (suc n) text = n

-- a byte that goes on with an open bracket: one of a class, but a `]` only where it closes nothing
abbrev pub goes_on : (ℕ → Bool) → ℕ → ℕ → Bool
goes_on f passed c = f c also (nat_lt 0 passed or not_so (c == 93))

-- An open bracket: at which place its `]` stands, or else the first byte that isn't of the class. None where a symbol stands in it that is left out.
abbrev pub open_bracket : (ℕ → Bool) → ℕ → ℕ → List ℕ → Option ℕ
open_bracket f passed at [] = Some at
open_bracket f passed at (c ∷ cs) =
    if has_symbol f (c ∷ cs) then None
    else if goes_on f passed c then open_bracket f (passed_on passed (c ∷ cs)) (suc at) cs
    else Some at

-- how many bytes more the bracket has that begins a text, 0 where none begins there; None where one is in it
abbrev pub bracket : (ℕ → Bool) → List ℕ → Option ℕ
bracket f text = if slice_index text 0 == 91 then open_bracket f (items_begin (drop 1 text)) 1 (drop 1 text) else Some 0

-- the same behind a byte, of whose bracket so many are left
abbrev pub bracket_on : (ℕ → Bool) → ℕ → List ℕ → Option ℕ
bracket_on f zero text = bracket f text
bracket_on f (suc n) text = Some n

-- how many bytes in front are of a class, up to a bracket with one in it
abbrev pub text_run : (ℕ → Bool) → Option ℕ → List ℕ → ℕ
text_run f None text = 0
text_run f (Some n) [] = 0
text_run f (Some n) (c ∷ cs) = one_if (f c) (text_run f (bracket_on f n cs) cs)

-- a text of a kind, of bytes of a class, the first of them in any case
abbrev pub text_from : (ℕ → Bool) → TokenKind → Option ℕ → List ℕ → Look
text_from f kind None behind = None
text_from f kind (Some n) behind = token kind (suc (text_run f (bracket_on f n behind) behind))

abbrev pub text_look : (ℕ → Bool) → TokenKind → List ℕ → Look
text_look f kind text = text_from f kind (bracket f text) (drop 1 text)

-- how many bytes stand before the first one in a text
abbrev pub before_symbol : List ℕ → ℕ
before_symbol [] = 0
before_symbol (c ∷ cs) = if begins_symbol (c ∷ cs) then 0 else suc (before_symbol cs)

-- the class of the bytes of a text that may have a bracket, by its kind
abbrev pub text_class : TokenKind → Option Class
text_class k.CommandText = Some cl.Plain
text_class k.PrefixText = Some cl.Plain
text_class k.WordText = Some cl.Plain
text_class k.PatternText = Some cl.Plain
text_class k.ValueText = Some cl.Plain
text_class k.Text = Some cl.Plain
text_class k.BraceStartText = Some cl.BraceText
text_class k.BraceText = Some cl.BraceText
text_class other = None

-- where more bytes of a text are left than so many, no `]` closes a bracket there
pub record IsUnclosed (f : ℕ → Bool) (down_to : ℕ) (text : List ℕ) : Type 0 where
  pub none_closed : (n : ℕ) → down_to < length (drop n text) → closes_bracket f (folded (drop n text)) ≡ false
