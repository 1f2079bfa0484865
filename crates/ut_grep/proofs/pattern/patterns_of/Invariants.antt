use Rattle.std.proofs.Common.{drop}
use Rattle.ut_grep.proofs.PatternLemmas.{Left}
use Rattle.ut_grep.proofs.pattern.patterns_of.Given as goal

abbrev pub invariant-texts : goal.invariant-texts
invariant-texts l = Left l.manner l.texts (drop l.text-index l.texts) l.patterns.items
