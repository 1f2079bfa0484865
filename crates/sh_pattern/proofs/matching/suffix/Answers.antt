use Rattle.std.proofs.Common.{length}
use Rattle.sh_pattern.specs.Matching.{MatchesSuffix}
use Rattle.sh_pattern.proofs.BestLemmas.{suffix_told, within_told}
use Rattle.sh_pattern.proofs.matching.suffix.Goals as goal

pub returns-clause-value : goal.returns-clause-value
returns-clause-value c = suffix_told c.args.pattern.now c.args.bytes.now c.args.longest c.best_suffix.result c.best_suffix.ensures

pub returns-clause-within : goal.returns-clause-within
returns-clause-within c = within_told c.args.longest (length c.args.bytes.now) (MatchesSuffix c.args.pattern.now c.args.bytes.now) c.best_suffix.result c.best_suffix.ensures
