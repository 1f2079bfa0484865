-- Which text is which script (XCU sed, "Editing Commands in sed").
use Rattle.std.specs.Prelude.{ℕ, zero, suc, ◌+◌, length, take, drop, List, [], ◌∷◌, ◌++◌, Bool, true, false, not, ◌==◌, ◌&&◌, ◌||◌, nat_lt, nat_le, Option, Some, None, option_to_list, if◌then◌else◌}
use Rattle.std.specs.List.{prefix_len}
use Rattle.rk_base.specs.Text.{Text}
use Rattle.ut_args.specs.Numbers.{number}
use Rattle.ut_bre.specs.Trees.{Expression}
use Rattle.ut_sed.specs.declared.command.Part.{Part}
use Rattle.ut_sed.specs.declared.reader.Flags.{Flags}
use Rattle.ut_sed.specs.declared.scan.Scan.TheVariants.{Raw}
use Rattle.ut_sed.specs.Commands.{AddressValue, line, last, matching, SubstitutionValue, ActValue, prints, deletes, quits, counts, changes, substitutes, CommandValue}
use Rattle.ut_sed.specs.Scanning.{is_delimiter, is_digit, text_from, expression_at, parts_at}

abbrev pub is_blank : ℕ → Bool
is_blank b = (b == 32) || (b == 9)

-- without the blanks in front
abbrev pub skipped : Text → Text
skipped [] = []
skipped (b ∷ bs) = if is_blank b then skipped bs else b ∷ bs

abbrev pub numbered : ℕ → Text → Option (ℕ × Text)
numbered size text = if nat_lt 0 size && nat_le size 10 then Some (number (take size text), drop size text) else None

-- the number that one to ten digits spell, and what stands behind them
abbrev pub number_at : Text → Option (ℕ × Text)
number_at text = numbered (prefix_len is_digit text) text

-- Addresses: where none stands here, that is none.

abbrev pub matched : Option (Expression × Text) → Option (Option AddressValue × Text)
matched None = None
matched (Some r) = Some (Some (matching r.0), r.1)

abbrev pub lined : Option (ℕ × Text) → Option (Option AddressValue × Text)
lined None = None
lined (Some r) = Some (Some (line r.0), r.1)

-- `$`, `/re/` or a number
abbrev pub address_at : Text → Option (Option AddressValue × Text)
address_at [] = Some (None, [])
address_at (b ∷ bs) = if b == 36 then Some (Some last, bs) else (if b == 47 then matched (expression_at 47 bs) else (if is_digit b then lined (number_at (b ∷ bs)) else Some (None, b ∷ bs)))

pub record Addresses : Type 0 where
  pub first : Option AddressValue
  pub second : Option AddressValue

-- no line has the number 0, which is no first address
abbrev pub is_zero : AddressValue → Bool
is_zero (line n) = n == 0
is_zero last = false
is_zero (matching e) = false

abbrev pub after_comma : AddressValue → Option (Option AddressValue × Text) → Option (Addresses × Text)
after_comma a None = None
after_comma a (Some (None, rest)) = None
after_comma a (Some (Some b, rest)) = Some (record { first = Some a; second = Some b }, rest)

-- a second address behind a comma, round which blanks may stand
abbrev pub second_at : AddressValue → Text → Option (Addresses × Text)
second_at a [] = Some (record { first = Some a; second = None }, [])
second_at a (b ∷ bs) = if b == 44 then after_comma a (address_at (skipped bs)) else Some (record { first = Some a; second = None }, b ∷ bs)

abbrev pub first_at : Option (Option AddressValue × Text) → Option (Addresses × Text)
first_at None = None
first_at (Some (None, rest)) = Some (record { first = None; second = None }, rest)
first_at (Some (Some a, rest)) = if is_zero a then None else second_at a (skipped rest)

-- no address, one, or two
abbrev pub addresses_at : Text → Option (Addresses × Text)
addresses_at text = first_at (address_at text)

-- a `!`, behind which blanks may stand
abbrev pub negation_at : Text → Bool × Text
negation_at [] = (false, [])
negation_at (b ∷ bs) = if b == 33 then (true, skipped bs) else (false, b ∷ bs)

-- `y`: strings of equal length

abbrev pub change_of : Text → Option (Text × Text) → Option (ActValue × Text)
change_of from None = None
change_of from (Some to) = if length from == length to.0 then Some (changes (record { from = from; to = to.0 }), to.1) else None

abbrev pub change_to : ℕ → Option (Text × Text) → Option (ActValue × Text)
change_to d None = None
change_to d (Some from) = change_of from.0 (text_from d Raw [] from.1)

abbrev pub change_at : Text → Option (ActValue × Text)
change_at [] = None
change_at (d ∷ rest) = if is_delimiter d then change_to d (text_from d Raw [] rest) else None

-- The flags of `s`: `g`, `p` and the number of a match, which isn't 0, each once, in any order.

abbrev pub no_flags : Flags
no_flags = record { number = None; global = false; prints = false }

abbrev pub with_number : Flags → Text → Option (ℕ × Text) → Flags × Text
with_number f text None = (f, text)
with_number f text (Some r) = if r.0 == 0 then (f, text) else (record { number = Some r.0; global = f.global; prints = f.prints }, r.1)

abbrev pub number_flag : Flags → Option ℕ → Text → Flags × Text
number_flag f (Some n) text = (f, text)
number_flag f None text = with_number f text (number_at text)

-- one flag that isn't there yet, where it stands here
abbrev pub flag_at : Flags → Text → Flags × Text
flag_at f [] = (f, [])
flag_at f (b ∷ bs) = if (b == 103) && not f.global then (record { number = f.number; global = true; prints = f.prints }, bs) else (if (b == 112) && not f.prints then (record { number = f.number; global = f.global; prints = true }, bs) else number_flag f f.number (b ∷ bs))

-- there are three at most
abbrev pub flags_at : Text → Flags × Text
flags_at text =
    let a = flag_at no_flags text in
    let b = flag_at a.0 a.1 in
    flag_at b.0 b.1

abbrev pub number_or_one : Option ℕ → ℕ
number_or_one None = 1
number_or_one (Some n) = n

abbrev pub substitution_with : Expression → List Part → Flags → SubstitutionValue
substitution_with e parts f = record { expression = e; parts = parts; first = number_or_one f.number; global = f.global; prints = f.prints }

abbrev pub substitution_of_parts : Expression → Option (List Part × Text) → Option (ActValue × Text)
substitution_of_parts e None = None
substitution_of_parts e (Some p) = Some (substitutes (substitution_with e p.0 (flags_at p.1).0), (flags_at p.1).1)

abbrev pub substitution_for : ℕ → Option (Expression × Text) → Option (ActValue × Text)
substitution_for d None = None
substitution_for d (Some e) = substitution_of_parts e.0 (parts_at d e.0.groups e.1)

-- `s`: an expression, what stands for it, and flags
abbrev pub substitution_at : Text → Option (ActValue × Text)
substitution_at [] = None
substitution_at (d ∷ rest) = if is_delimiter d then substitution_for d (expression_at d rest) else None

abbrev pub act_by : ℕ → Text → Option (ActValue × Text)
act_by b rest =
    if b == 112 then Some (prints, rest) else (if b == 100 then Some (deletes, rest) else (if b == 113 then Some (quits, rest) else (if b == 61 then Some (counts, rest) else (if b == 121 then change_at rest else (if b == 115 then substitution_at rest else None)))))

-- `p`, `d`, `q`, `=`, `y` or `s`
abbrev pub act_at : Text → Option (ActValue × Text)
act_at [] = None
act_at (b ∷ rest) = act_by b rest

abbrev pub command_with : Addresses → Bool → Option (ActValue × Text) → Option (CommandValue × Text)
command_with a negated None = None
command_with a negated (Some act) = Some (record { first = a.first; second = a.second; negated = negated; act = act.0 }, act.1)

abbrev pub command_for : Option (Addresses × Text) → Option (CommandValue × Text)
command_for None = None
command_for (Some a) = let n = negation_at (skipped a.1) in command_with a.0 n.0 (act_at n.1)

-- addresses, a `!` and what is done with the lines; blanks may stand between these
abbrev pub command_at : Text → Option (CommandValue × Text)
command_at text = command_for (addresses_at text)

abbrev pub some_command : Option (CommandValue × Text) → Option (Option CommandValue × Text)
some_command None = None
some_command (Some c) = Some (Some c.0, c.1)

abbrev pub is_separator : ℕ → Bool
is_separator b = (b == 59) || (b == 10)

-- a command, or none before a `;`, a newline or the end
abbrev pub command_or_none : Text → Option (Option CommandValue × Text)
command_or_none [] = Some (None, [])
command_or_none (b ∷ rest) = if is_separator b then Some (None, b ∷ rest) else some_command (command_at (b ∷ rest))

-- How a script goes on behind a command: it is none, it ends, or more comes behind a separator.
pub data ReadStep : Type 0 where
  wrong : ReadStep
  ends : (commands : List CommandValue) → ReadStep
  goes : (commands : List CommandValue) (rest : Text) → ReadStep

abbrev pub separated : List CommandValue → Text → ReadStep
separated commands [] = ends commands
separated commands (b ∷ rest) = if is_separator b then goes commands rest else wrong

abbrev pub step_with : List CommandValue → Option (Option CommandValue × Text) → ReadStep
step_with commands None = wrong
step_with commands (Some c) = separated (commands ++ option_to_list c.0) (skipped c.1)

abbrev pub step : List CommandValue → Text → ReadStep
step commands text = step_with commands (command_or_none (skipped text))

-- the commands of a script behind others; so many of its commands at most
abbrev pub commands_from : ℕ → List CommandValue → Text → Option (List CommandValue)
commands_from zero commands text = None
commands_from (suc n) commands text = elim (step commands text) as (λ s. Option (List CommandValue)) [ wrong ↦ None | ends all ↦ Some all | goes more rest ↦ commands_from n more rest ]

-- The commands of a script behind others; None where the text is none. It has at most one more than bytes, since a
-- separator comes before each but the first.
abbrev pub script_after : List CommandValue → Text → Option (List CommandValue)
script_after commands text = commands_from (length text + 1) commands text
