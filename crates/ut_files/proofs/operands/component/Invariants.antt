use Rattle.std.proofs.Common.{◌≡◌, ℕ, ◌<◌, get_or, false}
use Rattle.rk_base.specs.Text.{is_slash}
use Rattle.ut_files.proofs.operands.component.Given as goal

abbrev pub invariant-loop-i : goal.invariant-loop-i
invariant-loop-i l = (k : ℕ) → k < l.i → is_slash (get_or l.text k 0) ≡ false
