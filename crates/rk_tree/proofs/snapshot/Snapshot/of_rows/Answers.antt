use Rattle.rk_tree.proofs.RowsLemmas.{collected}
use Rattle.rk_tree.proofs.snapshot.Snapshot.of_rows.Goals as goal

pub returns : goal.returns
returns c = collected c.args.rows.items c.in_ok-rows.rows.entries c.in_ok-rows.ensures.0
