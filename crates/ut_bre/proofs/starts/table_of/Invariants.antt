use Rattle.std.proofs.Common.{◌≡◌, map, true}
use Rattle.std.specs.List.{range_with_len}
use Rattle.ut_bre.specs.Trees.{trees_of}
use Rattle.ut_bre.specs.Starting.{starts}
use Rattle.ut_bre.proofs.starts.table_of.Given as goal

abbrev pub invariant-loop-i : goal.invariant-loop-i
invariant-loop-i l = l.entries.items ≡ map (λ b. starts (trees_of l.items) true b) (range_with_len 0 l.i)
