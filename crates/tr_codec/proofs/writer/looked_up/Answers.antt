use Rattle.tr_codec.proofs.PutsLemmas.{numbered}
use Rattle.tr_codec.proofs.writer.looked_up.Goals as goal

pub returns-clause-number : goal.returns-clause-number
returns-clause-number c = (numbered _ _ _ c.as_slice.ensures.apart c.in_ok-n.ensures.number).1
