use Rattle.std.proofs.Common.{◌≡◌, drop}
use Rattle.sh_operands.specs.Lengths.{measured}
use Rattle.sh_operands.proofs.length.Measure.pass.Given as goal

abbrev pub invariant-pieces : goal.invariant-pieces
invariant-pieces l = measured (drop l.piece-index l.pieces) l.left l.self ≡ measured l.pieces l.operands l.initial.self
