use Rattle.std.proofs.Common.{◌≡◌, ℕ, List, length, vec_len}
use Rattle.tr_nodes.specs.Tails.{Tail}
use Rattle.tr_record.specs.Pool.{steps_under}
use Rattle.tr_record.specs.declared.steps.Step.{Step}
use Rattle.tr_kept.specs.KnownPut.{AreRenumbered, IsChain, StepsPut}
use Rattle.tr_codec.specs.NodesPut.{Holds}
use Rattle.tr_kept.proofs.known_pieces.put_under.Given as goal

-- the nodes that are left lead to one whose steps were put
abbrev pub invariant-nodes : goal.invariant-nodes
invariant-nodes l = record {
  many : length l.numbers.items ≡ length l.pool.nodes;
  put : (end : ℕ) × IsChain l.pool.nodes l.head l.left.items end × ((tails : List (Tail Step)) → Holds tails l.initial.writer → AreRenumbered tails l.pool.nodes l.initial.numbers.items → StepsPut tails l.pool.nodes (steps_under l.pool.nodes end) l.number l.numbers.items l.writer);
}

abbrev pub decreases-nodes : goal.decreases-nodes
decreases-nodes l = vec_len l.left
