use Rattle.tr_codec.proofs.PutsLemmas.{puts_then}
use Rattle.tr_codec.proofs.call_pieces.put_path_call.Goals as goal

pub returns : goal.returns
returns c = puts_then _ _ _ _ _ c.in_ok-put_byte.ensures.puts c.in_ok-put_blob.ensures
