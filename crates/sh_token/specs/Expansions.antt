-- What begins with a dollar sign (XCU 2.6): a text that begins so.
use Rattle.std.specs.Prelude.{ℕ, ◌+◌, ◌==◌, List, drop, slice_index, Bool, if◌then◌else◌, Some, None}
use Rattle.sh_rules.specs.declared.token_kind.TokenKind.{TokenKind}
use Rattle.sh_rules.specs.declared.token_kind.TokenKind.TheVariants as k
use Rattle.sh_token.specs.Bytes.{◌or◌, ◌also◌, not_so, is_digit, is_letter, is_name}
use Rattle.sh_token.specs.Folded.{run}
use Rattle.sh_token.specs.Tokens.{Look, token}

-- @ * # ?
abbrev pub is_special : ℕ → Bool
is_special c = c == 64 or c == 42 or c == 35 or c == 63

-- how many bytes the parameter has with which a text begins (XCU 2.5), 0 where it begins with none
unfoldable pub parameter : List ℕ → ℕ
parameter text =
    let c = slice_index text 0 in
    if is_letter c then run is_name text
    else if is_digit c then run is_digit text
    else if is_special c then 1 else 0

-- a dollar sign begins something by the byte behind it: a parameter, one of $$ $! $-, a substitution or braces
abbrev pub is_begun : ℕ → Bool
is_begun d = is_letter d or is_digit d or is_special d or d == 36 or d == 33 or d == 45 or d == 40 or d == 123

-- one that begins nothing stands for itself
abbrev pub is_dollar : List ℕ → Bool
is_dollar text = slice_index text 0 == 36 also not_so (is_begun (slice_index text 1))

-- the operator behind a parameter in braces: - = ? +, each also behind a colon; % %% # ## (XCU 2.6.2)
abbrev pub substitutes : ℕ → Bool
substitutes c = c == 45 or c == 61 or c == 63 or c == 43

abbrev pub operation : TokenKind → ℕ → ℕ → ℕ → Look
operation brace n c d =
    if c == 125 then token k.Braced (n + 1)
    else if c == 58 then (if substitutes d then token brace (n + 2) else None)
    else if substitutes c then token brace (n + 1)
    else if c == 37 then (if d == 37 then token k.PatternBrace (n + 2) else token k.PatternBrace (n + 1))
    else if c == 35 then (if d == 35 then token k.PatternBrace (n + 2) else token k.PatternBrace (n + 1))
    else None

abbrev pub operated : TokenKind → ℕ → List ℕ → Look
operated brace n text = if n == 0 then None else operation brace (n + 2) (slice_index text (n + 2)) (slice_index text (n + 3))

-- ${#P}, the length of P
abbrev pub length_of : ℕ → List ℕ → Look
length_of n text = if n == 0 then None else if slice_index text (n + 3) == 125 then token k.Braced (n + 4) else None

abbrev pub or_else : Look → Look → Look
or_else None other = other
or_else (Some x) other = Some x

abbrev pub length_look : List ℕ → Look
length_look text = if slice_index text 2 == 35 then length_of (parameter (drop 3 text)) text else None

abbrev pub parameter_in_braces : List ℕ → ℕ
parameter_in_braces text = if slice_index text 2 == 35 then 1 else parameter (drop 2 text)

-- ${: a length, or a parameter with or without an operator, whose word follows
unfoldable pub braced : TokenKind → List ℕ → Look
braced brace text = or_else (length_look text) (operated brace (parameter_in_braces text) text)

-- the variable whose name stands behind the dollar sign
abbrev pub named : List ℕ → Look
named text = token k.Parameter (run is_name (drop 1 text) + 1)

-- a parameter, an arithmetic expansion, which $(( always begins, a command substitution, braces, or the dollar sign itself
unfoldable pub dollar : TokenKind → List ℕ → Look
dollar brace text =
    let d = slice_index text 1 in
    if is_letter d then named text
    else if (is_digit d or is_special d) then token k.Parameter 2
    else if (d == 36 or d == 33 or d == 45) then None
    else if d == 40 then (if slice_index text 2 == 40 then token k.Arithmetic 3 else token k.Substitution 2)
    else if d == 123 then braced brace text
    else token k.Dollar 1
