use Rattle.std.proofs.Common.{◌-◌, ◌≤◌, length}
use Rattle.sh_pattern.specs.Sets.{Scanned}
use Rattle.sh_pattern.proofs.set.scan.Given as goal

abbrev pub invariant-items : goal.invariant-items
invariant-items l = Scanned l.text l.b l.held l.at × (l.at ≤ length l.text)

abbrev pub decreases-items : goal.decreases-items
decreases-items l = length l.text - l.at
