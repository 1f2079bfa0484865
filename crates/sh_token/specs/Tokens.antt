-- What is found in front of a text.
use Rattle.std.specs.Prelude.{ℕ, ◌-◌, nat_lt, List, length, Bool, true, false, if◌then◌else◌, Option, Some, None}
use Rattle.sh_rules.specs.declared.token_kind.TokenKind.{TokenKind}
use Rattle.sh_rules.specs.declared.token_kind.TokenKind.TheVariants as k
use Rattle.sh_token.specs.Folded.{behind}

-- a token's kind, and how many bytes it has
abbrev pub Look : Type 0
Look = Option (TokenKind × ℕ)

abbrev pub token : TokenKind → ℕ → Look
token k n = Some (k, n)

abbrev pub token_if : Bool → TokenKind → ℕ → Look
token_if true kind n = token kind n
token_if false kind n = None

-- tokens in which joined lines stay, or are looked at in another way
abbrev pub is_raw : TokenKind → Bool
is_raw k.Escape = true
is_raw k.Single = true
is_raw k.QuotedEscape = true
is_raw k.QuotedBraceEscape = true
is_raw k.BodyEscape = true
is_raw k.ArithmeticEscape = true
is_raw k.LiteralBody = true
is_raw k.BodyOpen = true
is_raw k.Delimiter = true
is_raw other = false

-- how many bytes of the text a token has
abbrev pub extent : Bool → ℕ → List ℕ → ℕ
extent true n text = if nat_lt n (length text) then n else length text
extent false n text = length text - length (behind n text)

abbrev pub measured : List ℕ → Look → Look
measured text None = None
measured text (Some x) = Some (x.0, extent (is_raw x.0) x.1 text)
