-- Operators (XCU 2.10.1), by their first bytes.
use Rattle.std.specs.Prelude.{ℕ, ◌+◌, ◌==◌, if◌then◌else◌, Some, None}
use Rattle.sh_rules.specs.declared.token_kind.TokenKind.TheVariants as k
use Rattle.sh_token.specs.Bytes.{◌or◌, ◌also◌}
use Rattle.sh_token.specs.Tokens.{Look, token}

-- what redirects (XCU 2.7): < << <<- <& and > >> >& >|
abbrev pub redirect : ℕ → ℕ → ℕ → Look
redirect c d e =
    if c == 60
    then (if d == 60 then (if e == 45 then token k.Here 3 else token k.Here 2) else if d == 38 then token k.Redirect 2 else if d == 62 then None else token k.Redirect 1)
    else if c == 62 then (if (d == 62 or d == 38 or d == 124) then token k.Redirect 2 else token k.Redirect 1) else None

abbrev pub more_by : ℕ → Look → Look
more_by n None = None
more_by n (Some x) = Some (x.0, n + x.1)

-- Behind a descriptor's number of one digit: the operator with it. In front of <>, which the profile leaves out, the number stands by
-- itself, and no word follows it.
abbrev pub numbered : ℕ → ℕ → ℕ → Look
numbered c d e = if (c == 60 also d == 62) then token k.Redirect 1 else more_by 1 (redirect c d e)

-- what controls: newline ; ;; && | || ) (the opening parenthesis stands with the words)
abbrev pub operator : ℕ → ℕ → Look
operator c d =
    if c == 59 then (if d == 59 then token k.DoubleSemi 2 else token k.Semi 1)
    else if c == 38 then (if d == 38 then token k.AndIf 2 else None)
    else if c == 124 then (if d == 124 then token k.OrIf 2 else token k.Pipe 1)
    else if c == 41 then token k.RightParen 1
    else None
