use Rattle.sh_pattern.specs.Parts.{parts}
use Rattle.sh_pattern.proofs.WalkLemmas.{walked-one, walked-stop}
use Rattle.sh_pattern.proofs.walk.Place.segment.Goals as goal

pub returns-in-Some : goal.returns-in-Some
returns-in-Some c = walked-stop _ _ (parts c.parts.self.pattern) _ c.parts.self.text.now _ c.in-Some.stop c.parts.invariant c.in-Some.ensures

pub parts-preserved : goal.parts-preserved
parts-preserved c = walked-one _ _ (parts c.parts.self.pattern) _ c.parts.self.text.now _ c.parts.invariant c.in_default.ensures
