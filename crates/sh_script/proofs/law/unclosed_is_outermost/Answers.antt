use Rattle.sh_script.proofs.Outermost.{unclosed_there}
use Rattle.sh_script.proofs.law.unclosed_is_outermost.Goals as goal

pub returns : goal.returns
returns c = unclosed_there
