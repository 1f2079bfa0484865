-- Why no script goes on at a place: by the place alone. At one place what the profile leaves out comes first, then a level too many, then what isn't closed, then syntax.
use Rattle.std.specs.Prelude.{ℕ, suc, ◌+◌, ◌-◌, ◌==◌, nat_lt, List, [], ◌∷◌, take, drop, length, slice_index, Option, Some, None, Bool, true, false, if◌then◌else◌}
use Rattle.sh_rules.specs.Grammar.{Halt, Blocked, Over}
use Rattle.sh_rules.specs.Rules.{Token}
use Rattle.sh_token.specs.declared.fault.Why.{Why}
use Rattle.sh_token.specs.declared.fault.Why.TheVariants as y
use Rattle.sh_token.specs.declared.fault.ScriptFault.{ScriptFault}
use Rattle.sh_token.specs.declared.delimiter.Within.TheVariants as w
use Rattle.sh_token.specs.Blanks.{joins}
use Rattle.sh_token.specs.Bytes.{◌or◌, ◌also◌, not_so, is_digit, is_plain}
use Rattle.sh_token.specs.Folded.{folded, run, behind}
use Rattle.sh_token.specs.Expansions.{parameter}
use Rattle.sh_token.specs.Brackets.{bracket, before_symbol}
use Rattle.sh_token.specs.Quoting.{not_quote}
use Rattle.sh_token.specs.HereDocuments.{Awaited, walk}
use Rattle.sh_token.specs.Places.{Place, is_none, is_closed}
use Rattle.sh_token.specs.Steps.{next}

abbrev pub fault : ℕ → Why → ScriptFault
fault at why = record { at = at; why = why }

-- a number of two digits or more in front of < or >
abbrev pub digits_out : List ℕ → ℕ
digits_out text =
    let n = run is_digit text in
    if (nat_lt 1 n also (slice_index text n == 60 or slice_index text n == 62)) then n else 0

abbrev pub dollar_out : List ℕ → ℕ
dollar_out text =
    let d = slice_index text 1 in
    if (d == 36 or d == 33 or d == 45) then 2 else 0

-- what this profile leaves out, in front of a text as it is read: ` ~ & <> $$ $! $- and long numbers of descriptors
unfoldable pub left_out : List ℕ → ℕ
left_out text =
    let c = slice_index text 0 in
    if (c == 96 or c == 126) then 1
    else if c == 38 then (if slice_index text 1 == 38 then 0 else 1)
    else if c == 60 then (if slice_index text 1 == 62 then 2 else 0)
    else if is_digit c then digits_out text
    else if c == 36 then dollar_out text
    else 0

-- a bracket that has [. or [= in it; in the middle of a word no text stands at a bracket only if it is such a one
abbrev pub is_out : Option ℕ → Bool
is_out None = true
is_out (Some n) = false

abbrev pub is_bracket_out : Bool → List ℕ → Bool
is_bracket_out in_word text = slice_index text 0 == 91 also (in_word or is_out (bracket is_plain text))

abbrev pub least : ℕ → ℕ → ℕ
least a b = if nat_lt a b then a else b

-- the outermost place of those that are open, which the first of each kind is
abbrev pub or_first : List Awaited → ℕ → ℕ
or_first [] at = at
or_first (a ∷ more) at = least a.at at

abbrev pub or_opened : List ℕ → ℕ → ℕ
or_opened [] at = at
or_opened (o ∷ more) at = least o at

-- a delimiter that is due belongs to a here-document that is open
abbrev pub or_operator : Bool → ℕ → ℕ → ℕ
or_operator true operator at = operator
or_operator false operator at = at

abbrev pub open_at : Place → ℕ
open_at p = or_opened p.opened (or_first p.awaited (or_operator p.due p.operator p.at))

abbrev pub unclosed : Place → ScriptFault
unclosed p = fault (open_at p) y.Unclosed

-- the text ends within what is open, or too soon
abbrev pub end_fault : Place → ScriptFault
end_fault p = if (is_closed p also not_so p.due) then fault p.at y.Syntax else unclosed p

-- where no body stands: it has a NUL, or isn't closed
abbrev pub not_nul : ℕ → Bool
not_nul c = not_so (c == 0)

abbrev pub body_fault : Place → ScriptFault
body_fault p =
    let n = run not_nul p.text in
    if nat_lt n (length p.text) then fault (p.at + n) y.Syntax else unclosed p

abbrev pub bodies_fault : Option (Bool × ℕ × Bool) → Place → ScriptFault
bodies_fault None p = fault p.at y.Syntax
bodies_fault (Some d) p = body_fault p

-- a delimiter isn't closed, or has what can't stand in it
abbrev pub delimiter_fault : ℕ → Place → ScriptFault
delimiter_fault n p =
    if nat_lt n (length p.text)
    then (if slice_index p.text n == 96 then fault (p.at + n) (y.NotInProfile (96 ∷ [])) else fault (p.at + n) y.Syntax)
    else unclosed p

-- a single quote that isn't closed, or has a NUL behind it; a closed one that isn't wanted
abbrev pub single_fault : ℕ → Place → ScriptFault
single_fault n p =
    if nat_lt n (length p.text)
    then (if slice_index p.text n == 39 then fault p.at y.Syntax else fault (p.at + n) y.Syntax)
    else unclosed p

-- the text ends within ${ and its parameter
abbrev pub behind_parameter : ℕ → List ℕ → ℕ
behind_parameter n text = let m = n + parameter (drop n text) in if slice_index text m == 58 then suc m else m

unfoldable pub breaks_off : List ℕ → Bool
breaks_off text =
    if (slice_index text 0 == 36 also slice_index text 1 == 123)
    then is_none (drop (behind_parameter (if slice_index text 2 == 35 then 3 else 2) text) text) else false

abbrev pub out_fault : ℕ → ℕ → List ℕ → ScriptFault
out_fault n at text = if n == 0 then fault at y.Syntax else fault at (y.NotInProfile (take n (folded text)))

-- what is left at the first [. or [= of the bracket with which a text begins, and the fault there
abbrev pub at_symbol : List ℕ → List ℕ
at_symbol text = behind (suc (before_symbol (drop 1 (folded text)))) text

abbrev pub symbol_fault : List ℕ → Place → ScriptFault
symbol_fault symbol p = fault (p.at + (length p.text - length symbol) + joins symbol) (y.NotInProfile (take 2 (folded symbol)))

abbrev pub bracket_fault : Place → ScriptFault
bracket_fault p = symbol_fault (at_symbol p.text) p

unfoldable pub text_fault : Place → ScriptFault
text_fault p =
    if is_none p.text then end_fault p
    else if slice_index p.text 0 == 39 then single_fault (suc (run not_quote (drop 1 p.text))) p
    else if breaks_off (folded p.text) then unclosed p
    else if is_bracket_out p.in_word (folded p.text) then bracket_fault p
    else out_fault (left_out (folded p.text)) p.at p.text

-- where a delimiter is due
abbrev pub due_fault : Place → ScriptFault
due_fault p = if (walk w.Bare p.text).ends then text_fault p else delimiter_fault (walk w.Bare p.text).count p

-- no token that stands there goes on
unfoldable pub blocked_fault : Place → ScriptFault
blocked_fault p = if p.in_bodies then bodies_fault (next p.awaited) p else if p.due then due_fault p else text_fault p

-- THE FAULT at a place where reading stops: blocked, or at a level too many
abbrev pub told : Bool → Place → ScriptFault
told true p = fault p.at y.Deep
told false p = blocked_fault p

abbrev pub is_over : Halt Token → Bool
is_over Blocked = false
is_over (Over t) = true

abbrev pub fault_of : Place → Halt Token → ScriptFault
fault_of p h = told (is_over h) p
