use Rattle.std.proofs.Common.{◌≡◌, drop}
use Rattle.std.specs.List.{fold}
use Rattle.rk_tree.specs.Copying.{made_of}
use Rattle.rk_tree.proofs.SnapshotLemmas.{put_child}
use Rattle.rk_tree.proofs.tree.Tree.put_names.Given as goal

abbrev pub invariant-loop-name : goal.invariant-loop-name
invariant-loop-name l = fold (put_child l.self l.path) (made_of l.rows.items) (drop l.name-index l.name-items) ≡ fold (put_child l.self l.path) (made_of l.fn.rows.items) l.name-items
