use Rattle.sh_token.proofs.ByRules.{by_the_rules}
use Rattle.sh_token.proofs.laws.tokens_are_recognized.Goals as goal

pub returns : goal.returns
returns c = by_the_rules
