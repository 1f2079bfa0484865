use Rattle.std.proofs.Common.{◌≡◌, ◌≤◌, drop}
use Rattle.ut_files.specs.Operands.{begins}
use Rattle.ut_files.proofs.operands.begins.Given as goal

abbrev pub invariant-loop-i : goal.invariant-loop-i
invariant-loop-i l = (begins l.at l.i (drop l.i l.text) ≡ begins 0 0 l.text) × (l.at ≤ l.i)
