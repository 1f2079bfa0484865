use Rattle.std.proofs.Common.{◌∷◌, length}
use Rattle.sh_pattern.specs.Parts.{Star, parts}
use Rattle.sh_pattern.specs.Walking.{Alike}
use Rattle.sh_pattern.proofs.walk.Place.end_after_star.Given as goal

abbrev pub invariant-stars : goal.invariant-stars
invariant-stars l = Alike (Star ∷ parts l.self.pattern) l.self.text.now (Star ∷ parts l.place.pattern) l.place.text.now

abbrev pub decreases-stars : goal.decreases-stars
decreases-stars l = length (parts l.place.pattern)
