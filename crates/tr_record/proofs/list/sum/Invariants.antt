use Rattle.std.proofs.Common.{◌≡◌, ◌+◌, drop}
use Rattle.tr_record.specs.Costs.{steps_cost}
use Rattle.tr_record.proofs.list.sum.Given as goal

abbrev pub invariant-loop-step : goal.invariant-loop-step
invariant-loop-step l = l.total + steps_cost (drop l.step-index l.steps) ≡ steps_cost l.fn.steps
