use Rattle.tr_codec.proofs.PutsLemmas.{puts_then}
use Rattle.tr_codec.proofs.answer_pieces.put_stat.Goals as goal

pub returns-clause-puts : goal.returns-clause-puts
returns-clause-puts c = puts_then _ _ _ _ _ c.in_ok-put_byte.ensures.puts (puts_then _ _ _ _ _ c.in_ok-put_byte-2.ensures.puts (puts_then _ _ _ _ _ c.in_ok-put_mode.ensures c.in_ok-put_byte-3.ensures.puts))
