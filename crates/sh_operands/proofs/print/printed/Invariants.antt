use Rattle.std.proofs.Common.{◌≡◌, ◌*◌, drop}
use Rattle.sh_operands.specs.Passes.{passes}
use Rattle.sh_operands.proofs.print.printed.Given as goal

abbrev pub invariant-passes : goal.invariant-passes
invariant-passes l = (l.made ≡ passes l.i l.n l.pieces l.operands) × (l.left ≡ drop (l.i * l.n) l.operands)
