use Rattle.std.proofs.Common.{◌≡◌, ◌++◌, vec_len}
use Rattle.ut_files.proofs.worker.put_before.Given as goal

abbrev pub invariant-steps : goal.invariant-steps
invariant-steps g l = l.steps.items ++ l.left.items ≡ l.fn.steps.items ++ l.initial.left.items

abbrev pub decreases-steps : goal.decreases-steps
decreases-steps g l = vec_len l.steps
