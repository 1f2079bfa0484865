use Rattle.sh_pattern.specs.Parts.{parts}
use Rattle.sh_pattern.proofs.SuffixLemmas.{between_least}
use Rattle.sh_pattern.proofs.walk.Place.least_after_star.Goals as goal

pub returns : goal.returns
returns c = between_least (parts c.args.self.now.pattern) c.args.self.now.text.now c.halves.span.low c.halves.span.high c.halves.invariant c.halves-test.false
