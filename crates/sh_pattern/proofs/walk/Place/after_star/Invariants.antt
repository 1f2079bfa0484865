use Rattle.std.proofs.Common.{ℕ, length}
use Rattle.sh_pattern.specs.Parts.{parts}
use Rattle.sh_pattern.specs.Walking.{Along}
use Rattle.sh_pattern.proofs.walk.Place.after_star.Given as goal

abbrev pub invariant-parts : goal.invariant-parts
invariant-parts l = (m : ℕ) × Along m (parts l.self.pattern) (parts l.pattern)

abbrev pub decreases-parts : goal.decreases-parts
decreases-parts l = length (parts l.pattern)
