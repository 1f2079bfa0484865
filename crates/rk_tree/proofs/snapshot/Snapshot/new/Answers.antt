use Rattle.rk_tree.proofs.RowsLemmas.{empty_rows}
use Rattle.rk_tree.proofs.snapshot.Snapshot.new.Goals as goal

pub returns : goal.returns
returns c = empty_rows c.new.result.entries c.new.ensures.empty
