-- What taking a token comes to.
use Rattle.std.specs.Prelude.{◌≡◌, ℕ, List, Result, Ok, Err, true, false}
use Rattle.sh_rules.specs.declared.token_kind.TokenKind.{TokenKind}
use Rattle.sh_token.specs.Places.{Place}
use Rattle.sh_token.specs.Effects.{effect_of}
use Rattle.sh_token.specs.Steps.{over, after, token_of}
use Rattle.sh_parse.specs.declared.source.ParseErr.{ParseErr}
use Rattle.sh_parse.specs.declared.source.ParseErr.TheVariants as stop

-- a token is taken, or it opens a level too many
abbrev pub Took : TokenKind → ℕ → Place → Place → Result (List ℕ) ParseErr → Type 0
Took kind length p q (Ok text) = (q ≡ after (effect_of kind) length p) × (over (token_of kind length p) p ≡ false) × (text ≡ (token_of kind length p).text)
Took kind length p q (Err stop.Memory) = Unit {0}
Took kind length p q (Err stop.Blocked) = ⊥
Took kind length p q (Err stop.Deep) = (q ≡ p) × (over (token_of kind length p) p ≡ true)
