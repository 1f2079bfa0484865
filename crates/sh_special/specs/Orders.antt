-- What a special builtin is told to do, by its words (XCU 2.14).
use Rattle.std.specs.Prelude.{ℕ, ◌+◌, ◌==◌, List, [], ◌∷◌, map, take, drop, position, codes, Bool, true, false, Option, Some, None, nat_le, if◌then◌else◌}
use Rattle.rk_base.specs.Text.{Text, same_text}
use Rattle.rk_calls.specs.Lines.{error_line}
use Rattle.sh_operands.specs.Counts.{count}
use Rattle.sh_operands.specs.Words.{joined, first_that, is_misnamed}
use Rattle.sh_special.specs.declared.declaration.Declaration.{Declaration}
use Rattle.sh_special.specs.declared.order.Order.{Order}
use Rattle.sh_special.specs.declared.order.Order.TheVariants as order
use Rattle.sh_special.specs.declared.name.Name.{Name}
use Rattle.sh_special.specs.declared.name.Name.TheVariants as builtin
use Rattle.sh_special.specs.Lines.{usage_line}
use Rattle.sh_special.specs.Settings.{sets}

-- Names.

abbrev pub named_in : Text → List (Text × Name) → Option Name
named_in word [] = None
named_in word (row ∷ rows) = if same_text word row.0 then Some row.1 else named_in word rows

abbrev pub names : List (Text × Name)
names =
    (codes ":", builtin.Colon) ∷ (codes ".", builtin.Dot) ∷ (codes "break", builtin.Break) ∷ (codes "continue", builtin.Continue) ∷ (codes "eval", builtin.Eval)
    ∷ (codes "exec", builtin.Exec)
    ∷ (codes "exit", builtin.Exit)
    ∷ (codes "export", builtin.Export)
    ∷ (codes "readonly", builtin.Readonly)
    ∷ (codes "return", builtin.Return)
    ∷ (codes "set", builtin.Set)
    ∷ (codes "shift", builtin.Shift)
    ∷ (codes "unset", builtin.Unset)
    ∷ []

-- the special builtin of this name
abbrev pub name_of : Text → Option Name
name_of word = named_in word names

-- Usage faults.

-- `NAME: OPERAND: usage`
abbrev pub misuse : Text → Text → Order
misuse n operand = order.Usage (error_line n operand (codes "usage"))

-- `NAME: usage`
abbrev pub no_use : Text → Order
no_use n = order.Usage (usage_line n)

-- One number at most: the first operand that is anything else, or is a second one, is told.

-- from 1 on
abbrev pub from_one : Option ℕ → Option ℕ
from_one None = None
from_one (Some n) = if n == 0 then None else Some n

-- from 0 to 255
abbrev pub status_in : Option ℕ → Option ℕ
status_in None = None
status_in (Some n) = if nat_le n 255 then Some n else None

abbrev pub no_second : Text → List Text → Order → Order
no_second n [] o = o
no_second n (next ∷ words) o = misuse n next

abbrev pub by_number : Text → Text → List Text → (ℕ → Order) → Option ℕ → Order
by_number n word words order_by None = misuse n word
by_number n word words order_by (Some v) = no_second n words (order_by v)

abbrev pub breaks : List Text → Order
breaks [] = order.Break 1
breaks (word ∷ words) = by_number (codes "break") word words (λ v. order.Break v) (from_one (count word))

abbrev pub continues : List Text → Order
continues [] = order.Continue 1
continues (word ∷ words) = by_number (codes "continue") word words (λ v. order.Continue v) (from_one (count word))

abbrev pub exits : List Text → Order
exits [] = order.Exit None
exits (word ∷ words) = by_number (codes "exit") word words (λ v. order.Exit (Some v)) (status_in (count word))

abbrev pub returns : List Text → Order
returns [] = order.Return None
returns (word ∷ words) = by_number (codes "return") word words (λ v. order.Return (Some v)) (status_in (count word))

abbrev pub shifts : List Text → Order
shifts [] = order.Shift 1
shifts (word ∷ words) = by_number (codes "shift") word words (λ v. order.Shift v) (count word)

-- Variables.

abbrev pub is_equals : ℕ → Bool
is_equals b = b == 61

abbrev pub cut_at : Text → Option ℕ → Declaration
cut_at word None = record { name = word; value = None }
cut_at word (Some i) = record { name = take i word; value = Some (drop (i + 1) word) }

-- a name, or a name, `=` and a value
abbrev pub declaration_of : Text → Declaration
declaration_of word = cut_at word (position is_equals word)

abbrev pub declares_none : Text → Bool
declares_none word = is_misnamed (declaration_of word).name

abbrev pub unless_found : Text → Option Text → Order → Order
unless_found n None o = o
unless_found n (Some word) o = misuse n word

-- the first operand that names no variable is told; without one it would print
abbrev pub declares : Text → Bool → List Text → Order
declares n readonly [] = no_use n
declares n readonly (word ∷ words) = unless_found n (first_that declares_none (word ∷ words)) (order.Declare readonly (map declaration_of (word ∷ words)))

abbrev pub unsets : List Text → Order
unsets words = unless_found (codes "unset") (first_that is_misnamed words) (order.Unset words)

-- Texts and commands.

-- exactly one file
abbrev pub dots : List Text → Order
dots [] = no_use (codes ".")
dots (file ∷ []) = order.Dot file
dots (file ∷ next ∷ words) = no_use (codes ".")

-- without a command its redirections stay
abbrev pub execs : List Text → Order
execs [] = order.Keep
execs (word ∷ words) = order.Exec (word ∷ words)

abbrev pub orders : Name → List Text → Order
orders builtin.Colon words = order.Pass
orders builtin.Dot words = dots words
orders builtin.Break words = breaks words
orders builtin.Continue words = continues words
orders builtin.Eval words = order.Eval (joined words)
orders builtin.Exec words = execs words
orders builtin.Exit words = exits words
orders builtin.Export words = declares (codes "export") false words
orders builtin.Readonly words = declares (codes "readonly") true words
orders builtin.Return words = returns words
orders builtin.Set words = sets words
orders builtin.Shift words = shifts words
orders builtin.Unset words = unsets words

-- what the words of a special builtin order, the name aside
abbrev pub order_in : Option Name → List Text → Option Order
order_in None words = None
order_in (Some n) words = Some (orders n words)

-- by the fields of a command; None where the first names no special builtin
abbrev pub order_of : List Text → Option Order
order_of [] = None
order_of (word ∷ words) = order_in (name_of word) words

-- the redirections of `exec` without a command stay
abbrev pub keeps_order : Order → Bool
keeps_order order.Keep = true
keeps_order o = false

-- the assignments before `exec` are exported to what it launches (XCU exec)
abbrev pub exports_order : Order → Bool
exports_order (order.Exec words) = true
exports_order o = false
