use Rattle.std.proofs.Common.{take}
use Rattle.tr_parts.specs.Piece.{blob, each}
use Rattle.tr_codec.specs.Puts.{Puts}
use Rattle.tr_codec.proofs.answer_pieces.put_list.Given as goal

abbrev pub invariant-names : goal.invariant-names
invariant-names l = Puts (each blob (take l.name-index l.names)) l.initial.w l.w
