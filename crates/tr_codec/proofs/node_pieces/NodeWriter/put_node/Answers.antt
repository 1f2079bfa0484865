use Rattle.std.proofs.Common.{arith}
use Rattle.tr_codec.specs.declared.node_pieces.NodeWriter.{NodeWriter}
use Rattle.tr_codec.proofs.NodesPutLemmas.{put}
use Rattle.tr_codec.proofs.PutsLemmas.{puts_then}
use Rattle.tr_codec.proofs.node_pieces.NodeWriter.put_node.Goals as goal

pub returns-clause-put : goal.returns-clause-put
returns-clause-put c = λ tails h le.
    let new : NodeWriter = record { writer = c.take.new.self; nodes = c.insert_full.new.self } in
    put tails c.args.self.now new c.put_step.new.w (record { next = c.args.next; step = c.args.step.now }) c.in_ok-key.key c.in_ok-place.place h le (record {
      puts = puts_then _ _ _ _ _ c.in_ok-put_number.ensures.puts c.in_ok-put_step.ensures.puts;
      key_is = c.in_ok-key.ensures.taken;
      writer_is = c.in_ok-key.ensures.left;
      keys_are = c.in_ok-place.ensures.keys;
      place_is = c.in_ok-place.ensures.index;
      inside = c.in_ok-place.ensures.within;
      few_key = c.in_ok-key.ensures.few;
      few = rw c.in_ok-key.ensures.left at c.in_ok-key.ensures.blobs;
      next = omega arith;
      typed = c.in_ok-put_step.ensures.typed;
    })
