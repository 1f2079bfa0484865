use Rattle.std.proofs.Common.{◌≤◌, length}
use Rattle.tr_record.specs.Pool.{steps_under}
use Rattle.tr_kept.specs.KnownPut.{IsChain}
use Rattle.tr_kept.proofs.known_pieces.unput.Given as goal

abbrev pub invariant-nodes : goal.invariant-nodes
invariant-nodes l = record { chain : IsChain l.pool.nodes l.head l.left.items l.at; within : l.at ≤ length l.pool.nodes }

abbrev pub decreases-nodes : goal.decreases-nodes
decreases-nodes l = length (steps_under l.pool.nodes l.at)
