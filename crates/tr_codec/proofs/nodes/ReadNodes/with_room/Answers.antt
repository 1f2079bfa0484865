use Rattle.tr_codec.specs.declared.nodes.ReadNodes.{ReadNodes}
use Rattle.tr_codec.proofs.NodesReadLemmas.{read_none, tails_in_none}
use Rattle.tr_codec.proofs.nodes.ReadNodes.with_room.Goals as goal

pub returns-clause-are : goal.returns-clause-are
returns-clause-are c = λ blobs. let nodes : ReadNodes = record { pool = c.in_ok-pool.pool; keys = c.in_ok-keys.keys } in read_none blobs nodes c.in_ok-pool.ensures c.in_ok-keys.ensures

pub returns-clause-none : goal.returns-clause-none
returns-clause-none c = let nodes : ReadNodes = record { pool = c.in_ok-pool.pool; keys = c.in_ok-keys.keys } in tails_in_none nodes c.in_ok-pool.ensures
