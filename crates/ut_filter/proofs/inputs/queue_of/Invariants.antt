use Rattle.std.proofs.Common.{◌≡◌, take}
use Rattle.ut_filter.proofs.inputs.queue_of.Given as goal

abbrev pub invariant-loop-word : goal.invariant-loop-word
invariant-loop-word l = l.queue.items ≡ take l.word-index l.words
