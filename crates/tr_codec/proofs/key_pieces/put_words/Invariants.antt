use Rattle.std.proofs.Common.{take}
use Rattle.tr_parts.specs.Piece.{blob, each}
use Rattle.tr_codec.specs.Puts.{Puts}
use Rattle.tr_codec.proofs.key_pieces.put_words.Given as goal

abbrev pub invariant-words : goal.invariant-words
invariant-words l = Puts (each blob (take l.word-index l.words)) l.initial.w l.w
