-- Which lines a command's addresses select (XCU sed, "Addresses in sed").
use Rattle.std.specs.Prelude.{ℕ, Bool, true, false, not, ◌==◌, nat_le, nat_lt, Option, Some, None, is_some, if◌then◌else◌}
use Rattle.rk_base.specs.Text.{Text}
use Rattle.ut_bre.specs.Found.{span_found}
use Rattle.ut_sed.specs.declared.select.Selected.{Selected}
use Rattle.ut_sed.specs.Commands.{AddressValue, line, last, matching, CommandValue}

-- whether an address selects the line of this number and of this text; and whether it is the last one
abbrev pub meets : AddressValue → ℕ → Bool → Text → Bool
meets (line m) n is_last text = n == m
meets last n is_last text = is_last
meets (matching e) n is_last text = is_some (span_found e text 0)

-- Whether a range goes on behind its first line: a second address that is a number, and not behind that line, gives
-- one line.
abbrev pub opens : AddressValue → ℕ → Bool
opens (line m) n = nat_lt n m
opens last n = true
opens (matching e) n = true

-- whether a line behind the first one is still in the range; it isn't behind the line of a second number
abbrev pub is_in : AddressValue → ℕ → Bool
is_in (line m) n = nat_le n m
is_in last n = true
is_in (matching e) n = true

-- whether the range goes on behind such a line
abbrev pub stays : AddressValue → ℕ → Bool → Text → Bool
stays (line m) n is_last text = nat_lt n m
stays last n is_last text = not is_last
stays (matching e) n is_last text = not (is_some (span_found e text 0))

-- a range, by whether it was open before this line
abbrev pub ranged : AddressValue → AddressValue → Bool → ℕ → Bool → Text → Selected
ranged a b true n is_last text = record { selected = is_in b n; opened = stays b n is_last text }
ranged a b false n is_last text = if meets a n is_last text then record { selected = true; opened = opens b n } else record { selected = false; opened = false }

-- from a first address, to a second one where there is one
abbrev pub from_first : AddressValue → Option AddressValue → Bool → ℕ → Bool → Text → Selected
from_first a None opened n is_last text = record { selected = meets a n is_last text; opened = false }
from_first a (Some b) opened n is_last text = ranged a b opened n is_last text

-- no address selects each line, one the lines that it meets, two the ranges from one to the other
abbrev pub addressed : Option AddressValue → Option AddressValue → Bool → ℕ → Bool → Text → Selected
addressed None second opened n is_last text = record { selected = true; opened = false }
addressed (Some a) second opened n is_last text = from_first a second opened n is_last text

-- with `!` the lines that the addresses don't select
abbrev pub negated : Bool → Selected → Selected
negated true s = record { selected = not s.selected; opened = s.opened }
negated false s = s

abbrev pub selected : CommandValue → Bool → ℕ → Bool → Text → Selected
selected c opened n is_last text = negated c.negated (addressed c.first c.second opened n is_last text)
