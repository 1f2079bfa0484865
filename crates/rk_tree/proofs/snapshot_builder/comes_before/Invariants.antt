use Rattle.std.proofs.Common.{◌≡◌, length}
use Rattle.rk_tree.specs.Growing.{walk_cmp}
use Rattle.rk_tree.proofs.snapshot_builder.comes_before.Given as goal

abbrev pub invariant-bytes : goal.invariant-bytes
invariant-bytes l = walk_cmp l.a l.b ≡ walk_cmp l.first l.second

abbrev pub decreases-bytes : goal.decreases-bytes
decreases-bytes l = length l.a
