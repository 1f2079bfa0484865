-- What quotes one byte or all but itself (XCU 2.2.1, 2.2.2): a text as it stands.
use Rattle.std.specs.Prelude.{ℕ, ◌+◌, ◌==◌, List, length, drop, slice_index, Bool, if◌then◌else◌, None}
use Rattle.sh_rules.specs.declared.token_kind.TokenKind.TheVariants as k
use Rattle.sh_token.specs.Bytes.{◌or◌, not_so}
use Rattle.sh_token.specs.Folded.{run}
use Rattle.sh_token.specs.Tokens.{Look, token}

-- a backslash and the byte that it quotes; at the text's end it is itself (XCU 2.2.1)
abbrev pub escape : List ℕ → Look
escape text = if length text == 1 then token k.Escape 1 else if slice_index text 1 == 0 then None else token k.Escape 2

-- all but the single quote and NUL
abbrev pub not_quote : ℕ → Bool
not_quote c = not_so (c == 0 or c == 39)

-- single quotes (XCU 2.2.2): joined lines stay in them
abbrev pub single : List ℕ → Look
single text = let n = run not_quote (drop 1 text) in if slice_index text (n + 1) == 39 then token k.Single (n + 2) else None
