use Rattle.sh_pattern.specs.Parts.{parts}
use Rattle.sh_pattern.proofs.MatchLemmas.{tells_prefix, best_prefix, within_text}
use Rattle.sh_pattern.proofs.matching.best_prefix.Goals as goal

pub overflow_sub-result : goal.overflow_sub-result
overflow_sub-result c = within_text c.args.longest (parts c.args.pattern.now) c.args.bytes.now c.in-Some.left c.in-Some.ensures

pub returns-in-None : goal.returns-in-None
returns-in-None c = tells_prefix c.args.longest (parts c.args.pattern.now) c.args.bytes.now c.in-None.ensures

pub returns-in-Some : goal.returns-in-Some
returns-in-Some c = best_prefix c.args.longest (parts c.args.pattern.now) c.args.bytes.now c.in-Some.left c.in-Some.ensures
