-- What taking a token comes to.
use Rattle.std.specs.Prelude.{◌≡◌, ◌==◌, ℕ, List, Bool, true, false, Result, Ok, Err}
use Rattle.sh_rules.specs.declared.token_kind.TokenKind.{TokenKind}
use Rattle.sh_lex.specs.declared.cursor.TakeErr.{TakeErr}
use Rattle.sh_lex.specs.declared.cursor.TakeErr.TheVariants as stop
use Rattle.sh_lex.specs.declared.taken.Taken.{Taken}
use Rattle.sh_token.specs.Bytes.{not_so}
use Rattle.sh_token.specs.Effects.{effect_of}
use Rattle.sh_token.specs.Places.{Place}
use Rattle.sh_token.specs.Steps.{after, over, token_of, as_read}

-- the bytes of a taken token, as they are read
abbrev pub read_of : Taken → List ℕ
read_of x = as_read x.raw x.tabs x.begins x.text.now

-- a byte joins no lines
abbrev pub stays : ℕ → Bool
stays c = not_so (c == 92)

-- A token of a kind and of so many bytes is taken, or opens a level too many, or memory ran out.
unfoldable pub Takes : TokenKind → ℕ → Place → Place → Result Taken TakeErr → Type 0
Takes kind n p q (Ok taken) = (q ≡ after (effect_of kind) n p) × (over (token_of kind n p) p ≡ false) × (read_of taken ≡ (token_of kind n p).text)
Takes kind n p q (Err stop.Deep) = (q ≡ p) × (over (token_of kind n p) p ≡ true)
Takes kind n p q (Err stop.Memory) = Unit {0}
