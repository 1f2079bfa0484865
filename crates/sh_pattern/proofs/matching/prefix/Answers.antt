use Rattle.std.proofs.Common.{length}
use Rattle.sh_pattern.specs.Matching.{MatchesPrefix}
use Rattle.sh_pattern.proofs.BestLemmas.{prefix_told, within_told}
use Rattle.sh_pattern.proofs.matching.prefix.Goals as goal

pub returns-clause-value : goal.returns-clause-value
returns-clause-value c = prefix_told c.args.pattern.now c.args.bytes.now c.args.longest c.best_prefix.result c.best_prefix.ensures

pub returns-clause-within : goal.returns-clause-within
returns-clause-within c = within_told c.args.longest (length c.args.bytes.now) (MatchesPrefix c.args.pattern.now c.args.bytes.now) c.best_prefix.result c.best_prefix.ensures
