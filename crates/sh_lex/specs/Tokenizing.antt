-- The tokens of a text, one after another, from any of its bytes on.
use Rattle.std.specs.Prelude.{◌≡◌, ◌≤◌, ℕ, ◌+◌, List, take, drop, length, Result, Ok, Err, Option, Some, None, Bool, true, false}
use Rattle.sh_rules.specs.declared.token_kind.Mode.TheVariants as m
use Rattle.sh_lex.specs.declared.lexer.Token.{Token}
use Rattle.sh_lex.specs.declared.lexer.LexErr.{LexErr}
use Rattle.sh_lex.specs.declared.lexer.LexErr.TheVariants as err
use Rattle.sh_token.specs.Tokens.{Look}
use Rattle.sh_token.specs.Expansions.{or_else}
use Rattle.sh_token.specs.Folded.{folded}
use Rattle.sh_token.specs.Lexemes.{look}
use Rattle.sh_token.specs.Places.{Place, begin_at, is_none}
use Rattle.sh_token.specs.Faults.{blocked_fault}

-- a text, and how many of its bytes went by
pub record Tokens : Type 0 where
  pub text : List ℕ
  pub at : ℕ

-- what is left past blanks, comments and joined lines, as where a script begins
abbrev pub here : Tokens → Place
here l = begin_at l.at l.text

abbrev pub is_over : Tokens → Bool
is_over l = is_none (folded (here l).text)

-- the token in front: as where a command begins, or else as among arguments
abbrev pub front : Place → Look
front p = or_else (look m.CommandStart p) (look m.Argument p)

-- A token of so many bytes: of the kind that is found there, behind what went by, and with the slice of its span; what follows it is next.
pub record Stands (old new : Tokens) (token : Token) (n : ℕ) : Type 0 where
  pub found : front (here old) ≡ Some (token.kind, n)
  pub begins : token.at ≡ (here old).at
  pub in_order : old.at ≤ token.at
  pub slice : token.text.now ≡ take n (drop token.at old.text)
  pub has_bytes : 1 ≤ n
  pub within : token.at + n ≤ length old.text
  pub behind : new ≡ record old { at = token.at + n }

-- None exactly where nothing is left; a fault exactly where something is left that begins with no token; and else the token.
-- An error changes nothing.
unfoldable pub Tells : Tokens → Tokens → Result (Option Token) LexErr → Type 0
Tells old new (Ok None) = (is_over old ≡ true) × (new ≡ record old { at = (here old).at })
Tells old new (Ok (Some token)) = (is_over old ≡ false) × ((n : ℕ) × Stands old new token n)
Tells old new (Err (err.Fault fault)) = (is_over old ≡ false) × (front (here old) ≡ None) × (fault ≡ blocked_fault (here old)) × (new ≡ old)
Tells old new (Err err.NoMemory) = new ≡ old
