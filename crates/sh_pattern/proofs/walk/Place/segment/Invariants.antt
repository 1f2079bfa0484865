use Rattle.std.proofs.Common.{length}
use Rattle.sh_pattern.specs.Parts.{parts}
use Rattle.sh_pattern.specs.Walking.{Walked}
use Rattle.sh_pattern.proofs.walk.Place.segment.Given as goal

abbrev pub invariant-parts : goal.invariant-parts
invariant-parts l = Walked (parts l.initial.self.pattern) l.initial.self.text.now (parts l.self.pattern) l.self.text.now

abbrev pub decreases-parts : goal.decreases-parts
decreases-parts l = length (parts l.self.pattern)
