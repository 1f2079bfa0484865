use Rattle.tr_attrs.proofs.RowLemmas.{one_attrs}
use Rattle.tr_attrs.proofs.laws.one_attrs.Goals as goal

pub returns : goal.returns
returns c = one_attrs
