use Rattle.tr_codec.proofs.NodesPutLemmas.{holds_none}
use Rattle.tr_codec.proofs.node_pieces.NodeWriter.with_room.Goals as goal

pub returns : goal.returns
returns c = holds_none _ c.new.ensures c.in_ok-nodes.ensures.empty
