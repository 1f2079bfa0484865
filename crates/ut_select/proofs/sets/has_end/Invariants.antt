use Rattle.std.proofs.Common.{◌≡◌, drop}
use Rattle.ut_select.specs.Sets.{has_end}
use Rattle.ut_select.proofs.sets.has_end.Given as goal

abbrev pub invariant-loop-b : goal.invariant-loop-b
invariant-loop-b l = has_end l.last (drop l.b-index l.text) ≡ has_end 0 l.text
