use Rattle.tr_codec.proofs.PutsLemmas.{puts_then}
use Rattle.tr_codec.proofs.key_pieces.put_var.Goals as goal

pub returns : goal.returns
returns c = puts_then _ _ _ _ _ c.in_ok-put_blob.ensures c.in_ok-put_blob-2.ensures
