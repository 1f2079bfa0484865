-- Whether it is settled where a turn or an item ends, before the end is reached.
use Rattle.std.specs.Prelude.{ℕ, List, Bool, true, Some, None, is_none, ◌==◌}
use Rattle.std.specs.List.{list_all}
use Rattle.ut_bre.specs.Walking.{Mark}

abbrev pub is_only : ℕ → Mark → Bool
is_only far None = true
is_only far (Some x) = x == far

-- no mark is left
abbrev pub are_none : List Mark → Bool
are_none marks = list_all is_none marks

-- all marks have one start
abbrev pub are_only : ℕ → List Mark → Bool
are_only far marks = list_all (is_only far) marks
