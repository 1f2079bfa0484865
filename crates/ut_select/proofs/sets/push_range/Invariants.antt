use Rattle.std.proofs.Common.{◌≡◌, ◌++◌, ◌-◌, ◌+◌}
use Rattle.std.specs.List.{range_with_len}
use Rattle.ut_select.specs.Sets.{range}
use Rattle.ut_select.proofs.sets.push_range.Given as goal

abbrev pub invariant-loop-b : goal.invariant-loop-b
invariant-loop-b l = l.set.items ++ range_with_len l.b ((l.high + 1) - l.b) ≡ l.initial.set.items ++ range l.low l.high
