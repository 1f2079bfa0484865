use Rattle.std.proofs.Common.{◌<◌, ◌^◌, take}
use Rattle.std.specs.List.{AllByRecursion}
use Rattle.tr_parts.specs.Piece.{each}
use Rattle.tr_codec.specs.Spelling.{pair_piece}
use Rattle.tr_codec.specs.Puts.{Puts}
use Rattle.tr_codec.proofs.key_pieces.put_pairs.Given as goal

abbrev pub invariant-pairs : goal.invariant-pairs
invariant-pairs l = record { puts : Puts (each pair_piece (take l.pair-index l.pairs)) l.initial.w l.w; fits : AllByRecursion (λ pair. pair.1 < 2 ^ 64) (take l.pair-index l.pairs) }
