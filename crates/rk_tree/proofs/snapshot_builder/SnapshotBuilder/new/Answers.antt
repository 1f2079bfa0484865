use Rattle.rk_tree.proofs.GrowingLemmas.{walk_new}
use Rattle.rk_tree.proofs.snapshot_builder.SnapshotBuilder.new.Goals as goal

pub invariant_of-result : goal.invariant_of-result
invariant_of-result c = walk_new c.new.result.items c.new.ensures.items
