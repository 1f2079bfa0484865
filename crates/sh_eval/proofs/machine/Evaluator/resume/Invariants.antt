use Rattle.std.proofs.Common.{◌≡◌, ℕ}
use Rattle.sh_eval.specs.Machine.{steps_on, evaluator_says, free_work}
use Rattle.sh_eval.proofs.machine.Evaluator.resume.Given as goal

abbrev pub invariant-free : goal.invariant-free
invariant-free l = (p : ℕ) → evaluator_says l.fn.self l.fn.answer p ≡ steps_on l.self l.answer p

abbrev pub decreases-free : goal.decreases-free
decreases-free l = free_work l.self
