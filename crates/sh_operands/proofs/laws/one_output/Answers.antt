use Rattle.sh_operands.proofs.UseLemmas.{made_so, made_once}
use Rattle.sh_operands.proofs.laws.one_output.Goals as goal

pub returns : goal.returns
returns c = λ ps operands. (made_so ps operands, made_once ps operands)
