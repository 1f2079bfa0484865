use Rattle.std.proofs.Common.{◌∷◌, ◌-◌}
use Rattle.sh_pattern.specs.Parts.{Star, parts}
use Rattle.sh_pattern.specs.Walking.{Between}
use Rattle.sh_pattern.proofs.walk.Place.least_after_star.Given as goal

abbrev pub invariant-halves : goal.invariant-halves
invariant-halves l = Between (Star ∷ parts l.self.pattern) l.self.text.now l.span.low l.span.high

abbrev pub decreases-halves : goal.decreases-halves
decreases-halves l = l.span.high - l.span.low
