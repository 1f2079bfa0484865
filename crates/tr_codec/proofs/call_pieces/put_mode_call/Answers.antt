use Rattle.tr_codec.proofs.PutsLemmas.{puts_then}
use Rattle.tr_codec.proofs.call_pieces.put_mode_call.Goals as goal

pub returns-clause-puts : goal.returns-clause-puts
returns-clause-puts c = puts_then _ _ _ _ _ c.in_ok-put_byte.ensures.puts (puts_then _ _ _ _ _ c.in_ok-put_blob.ensures c.in_ok-put_mode.ensures)
