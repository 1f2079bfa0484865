-- Words among commands, in clauses and behind redirections (XCU 2.3, 2.7, 2.9, 2.10.2): a text as it is read, that begins with no blank or comment.
use Rattle.std.specs.Prelude.{ℕ, suc, ◌==◌, nat_lt, List, drop, slice_index, codes, Bool, true, false, if◌then◌else◌, None}
use Rattle.sh_rules.specs.declared.token_kind.TokenKind.{TokenKind}
use Rattle.sh_rules.specs.declared.token_kind.TokenKind.TheVariants as k
use Rattle.sh_token.specs.declared.place.Words.{Words}
use Rattle.sh_token.specs.declared.place.Words.TheVariants.{All, Closers, Ordinary}
use Rattle.sh_token.specs.Bytes.{◌or◌, ◌also◌, is_blank, is_digit, is_letter, is_name, is_end, is_plain}
use Rattle.sh_token.specs.Folded.{run, run_on}
use Rattle.sh_token.specs.Brackets.{text_look}
use Rattle.sh_token.specs.Operators.{redirect, numbered}
use Rattle.sh_token.specs.Reserved.{is_word, opener}
use Rattle.sh_token.specs.Expansions.{or_else}
use Rattle.sh_token.specs.Tokens.{Look, token}

-- a redirection, maybe with a descriptor's number of one digit
abbrev pub redirection : List ℕ → Look
redirection text =
    let c = slice_index text 0 in
    let d = slice_index text 1 in
    let e = slice_index text 2 in
    if (c == 60 or c == 62) then redirect c d e else numbered d e (slice_index text 3)

-- reserved words that begin a command, where one may begin
abbrev pub opening : Words → List ℕ → Look
opening All text = opener text
opening Closers text = None
opening Ordinary text = None

abbrev pub is_in : Words → List ℕ → Bool
is_in All text = is_word (codes "in") text
is_in Closers text = is_word (codes "in") text
is_in Ordinary text = false

-- a descriptor's number of one digit in front of < or > (XCU 2.7)
abbrev pub is_numbered : List ℕ → Bool
is_numbered text = is_digit (slice_index text 0) also (slice_index text 1 == 60 or slice_index text 1 == 62)

-- a name and an equals sign (XCU 2.10.2, rule 7)
abbrev pub is_assignment : List ℕ → Bool
is_assignment text = is_letter (slice_index text 0) also slice_index text (run is_name text) == 61

abbrev pub assignment : List ℕ → Look
assignment text = token k.Assignment (suc (run is_name text))

-- an opening parenthesis, maybe behind blanks
abbrev pub opens_parenthesis : List ℕ → Bool
opens_parenthesis text = slice_index text (run is_blank text) == 40

-- a name before an opening parenthesis (XCU 2.9.5)
abbrev pub function_name : List ℕ → Look
function_name text =
    let n = run_on is_name text in
    if (is_letter (slice_index text 0) also opens_parenthesis (drop n text)) then token k.FunctionName n else None

-- the first text of a word
abbrev pub text_of : TokenKind → List ℕ → Look
text_of kind text = text_look is_plain kind text

-- a descriptor's number of two digits or more, which the profile leaves out
abbrev pub long_number : List ℕ → Bool
long_number text =
    let n = run is_digit text in
    nat_lt 1 n also (slice_index text n == 60 or slice_index text n == 62)

abbrev pub name_or_text : Bool → List ℕ → Look
name_or_text true text = None
name_or_text false text = or_else (function_name text) (text_of k.CommandText text)

-- where a command begins: a reserved word but `in`, the name of a function, or the first text of a command's name
unfoldable pub command_word : Words → List ℕ → Look
command_word words text = if long_number text then None else or_else (opening words text) (name_or_text (is_in words text) text)

-- behind assignments and redirections
unfoldable pub prefix_word : List ℕ → Look
prefix_word text = if long_number text then None else text_of k.PrefixText text

-- among the words of a command, and behind a command
unfoldable pub argument_word : Words → List ℕ → Look
argument_word words text = if long_number text then None else if is_in words text then token k.In 2 else text_of k.WordText text

-- behind the word of a case
abbrev pub case_in : List ℕ → Look
case_in text = if is_word (codes "in") text then token k.CaseIn 2 else None

-- the variable of a for, a whole word
abbrev pub name_look : List ℕ → Look
name_look text =
    let n = run_on is_name text in
    if (is_letter (slice_index text 0) also is_end (slice_index text n)) then token k.Name n else None
