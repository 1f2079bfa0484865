use Rattle.sh_operands.proofs.FormatLemmas.{pieces_read, read_elements}
use Rattle.sh_operands.proofs.laws.one_format.Goals as goal

pub returns : goal.returns
returns c = λ format ps. (pieces_read format ps, read_elements format ps)
