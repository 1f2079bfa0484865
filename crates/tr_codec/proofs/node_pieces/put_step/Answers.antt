use Rattle.tr_codec.proofs.PutsLemmas.{puts_then}
use Rattle.tr_codec.proofs.node_pieces.put_step.Goals as goal

pub returns-clause-puts : goal.returns-clause-puts
returns-clause-puts c = puts_then _ _ _ _ _ c.in_ok-put_number.ensures.puts (puts_then _ _ _ _ _ c.in_ok-put_call.ensures.puts c.in_ok-put_answer.ensures.puts)
