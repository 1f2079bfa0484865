use Rattle.std.proofs.Common.{◌≡◌, ℕ, ◌<◌}
use Rattle.tr_nodes.specs.Nodes.{Node}
use Rattle.tr_nodes.proofs.LoopLemmas.{HoldsBelow}
use Rattle.tr_record.specs.declared.steps.Step.{Step}
use Rattle.tr_codec.proofs.linked.are_linked.Given as goal

abbrev pub invariant-nodes : goal.invariant-nodes
invariant-nodes l = HoldsBelow (λ (k : ℕ) (node : Node Step). l.used < k → node.next ≡ k) l.pool.nodes l.k
