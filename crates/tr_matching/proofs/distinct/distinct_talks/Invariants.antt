use Rattle.tr_matching.proofs.DistinctLemmas.{AreDistinct}
use Rattle.tr_matching.proofs.distinct.distinct_talks.Given as goal

abbrev pub invariant-numbers : goal.invariant-numbers
invariant-numbers l = AreDistinct l.earlier l.numbers l.k l.kept.items l.talks.keys
