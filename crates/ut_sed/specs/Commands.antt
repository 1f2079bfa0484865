-- The commands of a script (XCU sed), without where they lie in memory.
use Rattle.std.specs.Prelude.{ℕ, List, map, Bool, Option, option_map}
use Rattle.ut_bre.specs.Expressions.{expression}
use Rattle.ut_bre.specs.Trees.{Expression}
use Rattle.ut_sed.specs.declared.address.Address.{Address}
use Rattle.ut_sed.specs.declared.address.Address.TheVariants.{Line, Last, Matching}
use Rattle.ut_sed.specs.declared.command.Act.{Act}
use Rattle.ut_sed.specs.declared.command.Act.TheVariants.{Print, Delete, Quit, Count, Change as Changes, Substitute}
use Rattle.ut_sed.specs.declared.command.Command.{Command}
use Rattle.ut_sed.specs.declared.command.Part.{Part}
use Rattle.ut_sed.specs.declared.command.Substitution.{Substitution}
use Rattle.ut_sed.specs.Changing.{ChangeValue}

-- an address: the number of a line, the last line, or each line that an expression matches
pub data AddressValue : Type 0 where
  line : (n : ℕ) → AddressValue
  last : AddressValue
  matching : (e : Expression) → AddressValue

-- `s`: what is matched and what stands for it, the number of the first match that is replaced, whether each after it is
-- (`g`), and whether the line is written then (`p`)
pub record SubstitutionValue : Type 0 where
  pub expression : Expression
  pub parts : List Part
  pub first : ℕ
  pub global : Bool
  pub prints : Bool

pub data ActValue : Type 0 where
  prints : ActValue
  deletes : ActValue
  quits : ActValue
  counts : ActValue
  changes : (c : ChangeValue) → ActValue
  substitutes : (s : SubstitutionValue) → ActValue

-- a command: its addresses, whether it is for the lines that they don't select (`!`), and what it does
pub record CommandValue : Type 0 where
  pub first : Option AddressValue
  pub second : Option AddressValue
  pub negated : Bool
  pub act : ActValue

-- What the code has.

abbrev pub address_of : Address → AddressValue
address_of (Line n) = line n
address_of Last = last
address_of (Matching e) = matching (expression e)

abbrev pub substitution_of : Substitution → SubstitutionValue
substitution_of s = record { expression = expression s.expression; parts = s.parts.items; first = s.first; global = s.global; prints = s.prints }

abbrev pub act_of : Act → ActValue
act_of Print = prints
act_of Delete = deletes
act_of Quit = quits
act_of Count = counts
act_of (Changes c) = changes c
act_of (Substitute s) = substitutes (substitution_of s)

abbrev pub command_of : Command → CommandValue
command_of c = record { first = option_map address_of c.first; second = option_map address_of c.second; negated = c.negated; act = act_of c.act }

abbrev pub commands_of : List Command → List CommandValue
commands_of = map command_of
