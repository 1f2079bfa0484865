use Rattle.rk_attrs.proofs.RowLemmas.{rows_ascend}
use Rattle.rk_folder.proofs.AttributesLemmas.{get-with_rows}
use Rattle.rk_folder.proofs.attributes.rows_apply.Goals as goal

pub returns : goal.returns
returns c = λ snapshot rows path are. get-with_rows snapshot rows path (rows_ascend rows are)
