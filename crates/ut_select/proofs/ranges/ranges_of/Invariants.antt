use Rattle.std.proofs.Common.{◌≡◌, ◌++◌, map}
use Rattle.std.specs.Prelude.{option_copied}
use Rattle.ut_select.specs.Fields.{fields_left}
use Rattle.ut_select.specs.Cuts.{range_of, ranges_of}
use Rattle.ut_select.proofs.FieldLemmas.{left_length}
use Rattle.ut_select.proofs.ranges.ranges_of.Given as goal

abbrev pub invariant-parts : goal.invariant-parts
invariant-parts l = l.ranges.items ++ map range_of (fields_left 44 (option_copied l.left)) ≡ ranges_of l.text

abbrev pub decreases-parts : goal.decreases-parts
decreases-parts l = left_length (option_copied l.left)
