-- What steps cost.
use Rattle.std.specs.Prelude.{ℕ, List, sum_by}
use Rattle.tr_record.specs.declared.steps.Step.{Step}

abbrev pub steps_cost : List Step → ℕ
steps_cost steps = sum_by (λ step. step.cost) steps
