use Rattle.std.proofs.Common.{arith}
use Rattle.tr_kept.proofs.KnownPutLemmas.{chain_push}
use Rattle.tr_kept.proofs.known_pieces.unput.Goals as goal

pub nodes-preserved : goal.nodes-preserved
nodes-preserved c =
    let nodes = c.args.pool.now.nodes in
    record {
      chain = rw (c.in_ok-push.ensures.items, c.next-at.ensures.value) (chain_push nodes c.args.head c.nodes.left.items c.nodes.at (omega arith) c.nodes.invariant.within c.nodes.invariant.chain);
      within = c.next-at.ensures.within;
    }
