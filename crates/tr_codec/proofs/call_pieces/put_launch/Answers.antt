use Rattle.std.proofs.Common.{subst}
use Rattle.tr_parts.specs.Piece.{counted}
use Rattle.tr_codec.specs.Spelling.{pair_piece}
use Rattle.tr_codec.specs.Puts.{Puts}
use Rattle.tr_codec.proofs.PutsLemmas.{puts_then}
use Rattle.tr_codec.proofs.call_pieces.put_launch.Goals as goal

pub returns-clause-puts : goal.returns-clause-puts
returns-clause-puts c =
    let pairs = subst (λ m. Puts (counted pair_piece m) c.put_key.new.w c.put_pairs.new.w) c.as_slice.ensures.value c.in_ok-put_pairs.ensures.puts in
    puts_then _ _ _ _ _ c.in_ok-put_byte.ensures.puts (puts_then _ _ _ _ _ c.in_ok-put_key.ensures.puts pairs)
