use Rattle.std.proofs.Common.{◌≡◌, ◌*◌, drop}
use Rattle.sh_operands.specs.Lengths.{measures}
use Rattle.sh_operands.proofs.length.measure_all.Given as goal

abbrev pub invariant-passes : goal.invariant-passes
invariant-passes l = (l.measure ≡ measures l.i l.n l.pieces l.operands) × (l.left ≡ drop (l.i * l.n) l.operands)
