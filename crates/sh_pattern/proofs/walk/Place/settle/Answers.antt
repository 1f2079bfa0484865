use Rattle.std.specs.Prelude.{None}
use Rattle.sh_pattern.specs.Parts.{parts}
use Rattle.sh_pattern.proofs.SuffixLemmas.{settles_none, settles_star}
use Rattle.sh_pattern.proofs.walk.Place.settle.Goals as goal

pub returns-in-None : goal.returns-in-None
returns-in-None c = settles_none (parts c.args.self.now.pattern) c.args.self.now.text.now None c.in-None.ensures.none

pub returns-in-Some : goal.returns-in-Some
returns-in-Some c = settles_star (parts c.args.self.now.pattern) (parts c.in-Some.rest.pattern) c.args.self.now.text.now _ c.least_after_star.result c.in-Some.ensures.star c.in-Some.ensures.text c.least_after_star.ensures
