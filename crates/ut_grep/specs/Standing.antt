-- Texts that stand in a line.
use Rattle.std.specs.Prelude.{List, Bool, if◌then◌else◌}
use Rattle.std.specs.List.{list_any}
use Rattle.rk_base.specs.Text.{Text, same_text}
use Rattle.ut_grep.specs.Greps.{occurs}

-- whether a text stands at some place of a line, or is the whole of it
abbrev pub stands : Bool → Text → Text → Bool
stands whole line text = if whole then same_text line text else occurs text line

-- whether one of these texts does
abbrev pub stands_any : Bool → List Text → Text → Bool
stands_any whole texts line = list_any (stands whole line) texts
