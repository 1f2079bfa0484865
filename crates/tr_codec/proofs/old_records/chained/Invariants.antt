use Rattle.std.proofs.Common.{vec_len}
use Rattle.tr_codec.proofs.OldRowLemmas.{Chained}
use Rattle.tr_codec.proofs.old_records.chained.Given as goal

abbrev pub invariant-steps : goal.invariant-steps
invariant-steps l = Chained l.initial.pool l.pool l.fn.steps.items l.left.items l.head

abbrev pub decreases-steps : goal.decreases-steps
decreases-steps l = vec_len l.left
