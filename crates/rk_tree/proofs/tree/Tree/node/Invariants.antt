use Rattle.std.proofs.Common.{◌≡◌, length}
use Rattle.rk_base.specs.Text.{components}
use Rattle.rk_tree.specs.Hierarchy.{number_at}
use Rattle.rk_tree.proofs.NodeLemmas.{down}
use Rattle.rk_tree.proofs.tree.Tree.node.Given as goal

abbrev pub invariant-names : goal.invariant-names
invariant-names l = down l.self l.dir (components l.names) ≡ number_at l.self l.path

abbrev pub decreases-names : goal.decreases-names
decreases-names l = length l.names
