use Rattle.std.proofs.Common.{take}
use Rattle.tr_parts.specs.Piece.{each}
use Rattle.tr_codec.specs.Spelling.{var_piece}
use Rattle.tr_codec.specs.Puts.{Puts}
use Rattle.tr_codec.proofs.key_pieces.put_vars.Given as goal

abbrev pub invariant-vars : goal.invariant-vars
invariant-vars l = Puts (each var_piece (take l.var-index l.vars)) l.initial.w l.w
