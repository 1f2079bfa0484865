use Rattle.std.proofs.Common.{◌≡◌, drop}
use Rattle.ut_find.specs.Words.{tests_from, tests_of}
use Rattle.ut_find.proofs.tests.tests_of.Given as goal

abbrev pub invariant-words : goal.invariant-words
invariant-words l = tests_from l.wants l.tests (drop l.word-index l.words) ≡ tests_of l.words
