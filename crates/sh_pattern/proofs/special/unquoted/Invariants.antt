use Rattle.std.proofs.Common.{◌≡◌, ◌-◌, ◌++◌, ◌≤◌, drop, length}
use Rattle.sh_pattern.specs.Special.{unquoted}
use Rattle.sh_pattern.proofs.special.unquoted.Given as goal

abbrev pub invariant-bytes : goal.invariant-bytes
invariant-bytes l = (l.text.items ++ unquoted (drop l.at l.pattern) ≡ unquoted l.pattern) × (l.at ≤ length l.pattern)

abbrev pub decreases-bytes : goal.decreases-bytes
decreases-bytes l = length l.pattern - l.at
