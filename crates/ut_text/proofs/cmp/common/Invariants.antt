use Rattle.std.proofs.Common.{◌≡◌, ◌≤◌, ◌++◌, ◌-◌, take, drop, length}
use Rattle.ut_text.specs.Cmps.{common}
use Rattle.ut_text.proofs.cmp.common.Given as goal

abbrev pub invariant-bytes : goal.invariant-bytes
invariant-bytes l = (l.at ≤ length l.a) × (l.at ≤ length l.b) × (take l.at l.a ++ common (drop l.at l.a) (drop l.at l.b) ≡ common l.a l.b)

abbrev pub decreases-bytes : goal.decreases-bytes
decreases-bytes l = length l.a - l.at
