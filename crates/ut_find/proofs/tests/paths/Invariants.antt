use Rattle.std.proofs.Common.{◌≡◌, ℕ, ◌<◌, get_or, false, []}
use Rattle.ut_find.specs.Words.{is_dashed}
use Rattle.ut_find.proofs.tests.paths.Given as goal

abbrev pub invariant-loop-i : goal.invariant-loop-i
invariant-loop-i l = (k : ℕ) → k < l.i → is_dashed (get_or l.words k []) ≡ false
