use Rattle.std.proofs.Common.{◌≡◌, ◌++◌, drop}
use Rattle.ut_grep.specs.Chosen.{all_patterns}
use Rattle.ut_grep.proofs.chosen.all_patterns.Given as goal

abbrev pub invariant-texts : goal.invariant-texts
invariant-texts l = l.patterns ++ all_patterns (drop l.text-index l.texts) ≡ all_patterns l.texts
