use Rattle.sh_pattern.proofs.DecidedLemmas.{decided}
use Rattle.sh_pattern.proofs.matching.matches.Goals as goal

pub returns-clause-decided : goal.returns-clause-decided
returns-clause-decided c = decided c.args.pattern.now c.args.bytes.now c.matches_all.result c.matches_all.ensures
