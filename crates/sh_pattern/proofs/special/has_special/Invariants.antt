use Rattle.std.proofs.Common.{◌≡◌, ◌-◌, ◌≤◌, drop, length, false}
use Rattle.sh_pattern.specs.Sets.{has_close}
use Rattle.sh_pattern.specs.Special.{has_special}
use Rattle.sh_pattern.proofs.special.has_special.Given as goal

abbrev pub invariant-bytes : goal.invariant-bytes
invariant-bytes l = (has_special l.pattern ≡ has_special (drop l.at l.pattern)) × (l.at ≤ length l.pattern) × (l.may_close ≡ false → has_close (drop l.at l.pattern) ≡ false)

abbrev pub decreases-bytes : goal.decreases-bytes
decreases-bytes l = length l.pattern - l.at
