use Rattle.std.proofs.Common.{◌≡◌, ◌≤◌, drop}
use Rattle.ut_plain.specs.Names.{after_last}
use Rattle.ut_plain.proofs.names.after_last.Given as goal

abbrev pub invariant-loop-i : goal.invariant-loop-i
invariant-loop-i l = (after_last l.slashes l.found l.i (drop l.i l.text) ≡ after_last l.slashes 0 0 l.text) × (l.found ≤ l.i)
