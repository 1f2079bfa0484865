use Rattle.std.proofs.Common.{◌≡◌, ◌++◌, drop, map}
use Rattle.ut_grep.specs.Greps.{lower}
use Rattle.ut_grep.proofs.occurs.lower_all.Given as goal

abbrev pub invariant-loop-b : goal.invariant-loop-b
invariant-loop-b l = l.small.items ++ map lower (drop l.b-index l.text) ≡ map lower l.text
