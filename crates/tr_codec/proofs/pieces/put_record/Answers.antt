use Rattle.tr_codec.proofs.PutsLemmas.{puts_then}
use Rattle.tr_codec.proofs.pieces.put_record.Goals as goal

pub returns-clause-puts : goal.returns-clause-puts
returns-clause-puts c = puts_then _ _ _ _ _ c.in_ok-put_key.ensures.puts (puts_then _ _ _ _ _ c.in_ok-put_number.ensures.puts (puts_then _ _ _ _ _ c.in_ok-put_byte.ensures.puts c.in_ok-put_number-2.ensures.puts))
