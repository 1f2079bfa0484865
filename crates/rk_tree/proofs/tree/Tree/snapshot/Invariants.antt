use Rattle.std.proofs.Common.{◌≡◌}
use Rattle.rk_tree.specs.Copying.{made_of}
use Rattle.rk_tree.proofs.SnapshotLemmas.{put_dirs, first_put}
use Rattle.rk_tree.proofs.tree.Tree.snapshot.Given as goal

abbrev pub invariant-loop-dir : goal.invariant-loop-dir
invariant-loop-dir l = made_of l.rows.items ≡ put_dirs l.self (first_put l.self) l.dir
