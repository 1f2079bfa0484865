use Rattle.std.proofs.Common.{◌≡◌, ℕ, length, drop}
use Rattle.sh_pattern.specs.Parts.{parts}
use Rattle.sh_pattern.specs.Walking.{NoneBefore}
use Rattle.sh_pattern.proofs.walk.Place.earliest.Given as goal

abbrev pub invariant-places : goal.invariant-places
invariant-places l =
    (n : ℕ) × (l.self.pattern ≡ l.initial.self.pattern) × (l.self.text.now ≡ drop n l.initial.self.text.now) × NoneBefore (parts l.initial.self.pattern) l.initial.self.text.now n

abbrev pub decreases-places : goal.decreases-places
decreases-places l = length l.self.text.now
