use Rattle.sh_means.proofs.Copied.{none_defined}
use Rattle.sh_means.proofs.functions.Functions.new.Goals as goal

pub returns : goal.returns
returns c = none_defined c.new.result.entries c.new.ensures.empty
