use Rattle.std.proofs.Common.{◌∷◌}
use Rattle.sh_pattern.specs.Parts.{Star, parts}
use Rattle.sh_pattern.proofs.EndLemmas.{ended, starred}
use Rattle.sh_pattern.proofs.walk.Place.end.Goals as goal

pub returns-in-End : goal.returns-in-End
returns-in-End c = ended c.args.longest c.args.self.now.pattern c.copy-here.result.pattern _ _ _ c.copy-here.ensures.pattern c.copy-here.ensures.text c.in-End.ensures

pub returns-in-Star : goal.returns-in-Star
returns-in-Star c = starred c.args.longest c.args.self.now.pattern c.copy-here.result.pattern _ _ (Star ∷ parts c.segment.new.self.pattern) _ c.end_after_star.result c.copy-here.ensures.pattern c.copy-here.ensures.text c.in-Star.ensures c.end_after_star.ensures
