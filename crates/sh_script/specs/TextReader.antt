-- The grammar's reader over texts.
use Rattle.std.specs.Prelude.{◌≡◌, ℕ, Option, Some, None}
use Rattle.sh_rules.specs.Grammar.{Symbol, Halt}
use Rattle.sh_rules.specs.Reading.{Reader, Halts}
use Rattle.sh_rules.specs.declared.token_kind.TokenKind.{TokenKind}
use Rattle.sh_rules.specs.declared.token_kind.Mode.{Mode}
use Rattle.sh_rules.specs.Parts.{Part}
use Rattle.sh_rules.specs.Rules.{Rule, Token, shell}
use Rattle.sh_rules.specs.Modes.{mode_of}
use Rattle.sh_rules.specs.Choosing.{reader}
use Rattle.sh_token.specs.Places.{Place}
use Rattle.sh_token.specs.Lexemes.{look}
use Rattle.sh_token.specs.Steps.{lex, over}

-- the shell, read from texts
abbrev pub text_reader : Reader TokenKind Part Rule Token Mode Place
text_reader = reader lex over

-- a token of a kind and of so many bytes stands there, and is found by itself
abbrev pub StandsThere : TokenKind → ℕ → Place → Type 0
StandsThere kind length p = look (mode_of kind) p ≡ Some (kind, length)

-- no token is found, or one of another kind
abbrev pub NotOf : TokenKind → Option (TokenKind × ℕ) → Type 0
NotOf kind None = Unit {0}
NotOf kind (Some x) = x.0 ≡ kind → ⊥

-- reading of a symbol halts there
unfoldable pub HaltsAt : Symbol TokenKind Part → Place → Halt Token → Type 0
HaltsAt s p h = Halts shell text_reader s p h
