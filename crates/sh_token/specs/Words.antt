-- What a backslash quotes (XCU 2.2.1, 2.2.3, 2.6.2, 2.7.4).
use Rattle.std.specs.Prelude.{ℕ, ◌==◌, Bool, true, false}
use Rattle.sh_rules.specs.declared.token_kind.TokenKind.{TokenKind}
use Rattle.sh_token.specs.Bytes.{◌or◌}
use Rattle.sh_token.specs.Tokens.{Look, token}

-- in a here-document and in an arithmetic expansion: $ ` \
abbrev pub is_quotable_in_body : ℕ → Bool
is_quotable_in_body d = d == 36 or d == 96 or d == 92

-- in double quotes also "
abbrev pub is_quotable : ℕ → Bool
is_quotable d = is_quotable_in_body d or d == 34

-- in the word of a parameter in double quotes also }
abbrev pub is_quotable_in_braces : ℕ → Bool
is_quotable_in_braces d = is_quotable d or d == 125

-- the backslash with what it quotes, or by itself
abbrev pub backslash : Bool → TokenKind → TokenKind → Look
backslash true quoted alone = token quoted 2
backslash false quoted alone = token alone 1
