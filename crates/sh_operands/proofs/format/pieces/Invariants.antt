use Rattle.std.proofs.Common.{◌≡◌, drop}
use Rattle.sh_operands.specs.Formats.{pieces_from, pieces}
use Rattle.sh_operands.proofs.format.pieces.Given as goal

abbrev pub invariant-bytes : goal.invariant-bytes
invariant-bytes l = pieces_from l.reading (drop l.b-index l.format) l.done ≡ pieces l.format
