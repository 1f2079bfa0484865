use Rattle.sh_script.proofs.NamedThere.{named_there}
use Rattle.sh_script.proofs.law.named_stands_there.Goals as goal

pub returns : goal.returns
returns c = named_there
