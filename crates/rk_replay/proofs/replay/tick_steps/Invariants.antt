use Rattle.std.proofs.Common.{◌≡◌, ◌+◌, length}
use Rattle.tr_record.specs.Costs.{steps_cost}
use Rattle.rk_replay.proofs.replay.tick_steps.Given as goal

-- what was counted, and what is left
abbrev pub invariant-steps : goal.invariant-steps
invariant-steps g l = l.live + steps_cost l.left ≡ l.fn.live + steps_cost l.fn.steps

abbrev pub decreases-steps : goal.decreases-steps
decreases-steps g l = length l.left
