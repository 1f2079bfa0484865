use Rattle.std.proofs.Common.{◌≤◌, length}
use Rattle.sh_pattern.specs.Parts.{parts}
use Rattle.sh_pattern.specs.Walking.{NoMatchAfter}
use Rattle.sh_pattern.proofs.walk.Place.shortest_suffix.Given as goal

abbrev pub invariant-places : goal.invariant-places
invariant-places l = (l.n ≤ length l.self.text.now) × NoMatchAfter (parts l.self.pattern) l.self.text.now l.n

abbrev pub decreases-places : goal.decreases-places
decreases-places l = l.n
