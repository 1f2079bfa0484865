use Rattle.sh_split.proofs.CutLemmas.{pass_cutting, cutting_pass}
use Rattle.sh_split.proofs.laws.one_cutting.Goals as goal

pub returns : goal.returns
returns c = λ kind text. (pass_cutting kind text, cutting_pass kind text)
