use Rattle.std.proofs.Common.{◌≡◌, ◌≤◌, drop}
use Rattle.ut_files.specs.Operands.{kept}
use Rattle.ut_files.proofs.operands.kept.Given as goal

abbrev pub invariant-loop-i : goal.invariant-loop-i
invariant-loop-i l = (kept l.end l.i (drop l.i l.text) ≡ kept 0 0 l.text) × (l.end ≤ l.i)
