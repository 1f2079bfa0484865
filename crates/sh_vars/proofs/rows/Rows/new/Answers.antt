use Rattle.sh_vars.proofs.RowsLemmas.{rows_none}
use Rattle.sh_vars.proofs.rows.Rows.new.Goals as goal

pub returns : goal.returns
returns c = rows_none c.new.result c.new.ensures
