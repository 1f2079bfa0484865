use Rattle.rk_top.proofs.OneLineLemmas.{one-line}
use Rattle.rk_top.proofs.laws.have_one_line.Goals as goal

pub returns : goal.returns
returns c = one-line
