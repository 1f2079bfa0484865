use Rattle.std.proofs.Common.{◌≡◌, drop}
use Rattle.sh_operands.specs.Printed.{pass}
use Rattle.sh_operands.proofs.print.pass.Given as goal

abbrev pub invariant-pieces : goal.invariant-pieces
invariant-pieces l = pass (drop l.piece-index l.pieces) l.left l.made ≡ pass l.pieces l.operands l.initial.made
