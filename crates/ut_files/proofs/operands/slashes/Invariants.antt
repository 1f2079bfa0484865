use Rattle.std.proofs.Common.{◌≡◌, ℕ, ◌<◌, get_or, false}
use Rattle.ut_files.specs.Operands.{is_other}
use Rattle.ut_files.proofs.operands.slashes.Given as goal

abbrev pub invariant-loop-i : goal.invariant-loop-i
invariant-loop-i l = (k : ℕ) → k < l.i → is_other (get_or l.text k 0) ≡ false
