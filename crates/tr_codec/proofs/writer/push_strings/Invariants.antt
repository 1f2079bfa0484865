use Rattle.std.proofs.Common.{◌≡◌, ◌++◌, take}
use Rattle.std.specs.List.{flat_map}
use Rattle.tr_parts.specs.Piece.{string}
use Rattle.tr_codec.proofs.writer.push_strings.Given as goal

abbrev pub invariant-texts : goal.invariant-texts
invariant-texts l = l.out.items ≡ l.fn.out.items ++ flat_map string (take l.text-index l.texts)
