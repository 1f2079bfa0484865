use Rattle.std.proofs.Common.{◌≡◌, ◌-◌, []}
use Rattle.tr_codec.specs.NodesRead.{AreRead, tails_in}
use Rattle.tr_codec.specs.Reading.{node_at, many_at}
use Rattle.tr_codec.specs.Used.{nodes_used}
use Rattle.tr_codec.proofs.nodes.so_many_nodes.Given as goal

abbrev pub invariant-nodes : goal.invariant-nodes
invariant-nodes l = record {
  read : many_at (node_at l.blobs) (l.count - l.counter) (tails_in l.nodes) l.rest ≡ many_at (node_at l.blobs) l.count [] l.bytes;
  are : AreRead l.blobs l.nodes;
  used : l.used ≡ nodes_used l.blobs l.initial.used (tails_in l.nodes);
}
