use Rattle.std.proofs.Common.{subst}
use Rattle.tr_parts.specs.Piece.{blob, counted}
use Rattle.tr_codec.specs.Puts.{Puts}
use Rattle.tr_codec.proofs.PutsLemmas.{puts_then}
use Rattle.tr_codec.proofs.answer_pieces.put_names.Goals as goal

pub returns-clause-puts : goal.returns-clause-puts
returns-clause-puts c =
    let names = subst (λ l. Puts (counted blob l) c.put_byte.new.self c.put_list.new.w) c.as_slice.ensures.value c.in_ok-put_list.ensures in
    puts_then _ _ _ _ _ c.in_ok-put_byte.ensures.puts names
