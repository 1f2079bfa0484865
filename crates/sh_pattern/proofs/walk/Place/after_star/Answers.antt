use Rattle.std.proofs.Common.{subst}
use Rattle.sh_pattern.specs.declared.part.Part.{Part as PartOf}
use Rattle.sh_pattern.specs.Parts.{parts, Begins}
use Rattle.sh_pattern.proofs.SuffixLemmas.{one_along}
use Rattle.sh_pattern.proofs.walk.Place.after_star.Goals as goal

pub parts-preserved : goal.parts-preserved
parts-preserved c = one_along 0 (parts c.args.self.now.pattern) (parts c.parts.pattern) (parts c.in-Some-One-default.rest) c.in-Some-One-default.field-0-0-0 c.parts.invariant (subst (λ (t : PartOf). Begins 0 (parts c.parts.pattern) t (parts c.in-Some-One-default.rest)) c.in-Some-One-default.field-0-0-is c.in-Some-One-default.ensures)
