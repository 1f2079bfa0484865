use Rattle.rk_replay.proofs.PaidLemmas.{LessDiffer}
use Rattle.rk_replay.proofs.paying.all_differ.Given as goal

abbrev pub invariant-ordinals : goal.invariant-ordinals
invariant-ordinals l = LessDiffer l.was l.rec l.ordinal
