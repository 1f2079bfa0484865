use Rattle.rk_folder.specs.Told.{item_in}
use Rattle.rk_tree.proofs.RowsLemmas.{entries-map_of}
use Rattle.rk_folder.proofs.HeldLemmas.{at_end}
use Rattle.rk_folder.proofs.held.rows_in.Goals as goal

pub returns : goal.returns
returns c = at_end (item_in c.args.dir.now) c.loop-path.items.items c.loop-path.path-iterator c.args.rows.now.entries _
    c.loop-path.invariant c.in-None.ensures.steps.0
    (entries-map_of c.args.rows.now.entries c.into_iter-path-iterator.ensures.into_iter_gives.5)
