use Rattle.std.proofs.Common.{◌≡◌, ℕ, ◌<◌, drop}
use Rattle.rk_traces.specs.Spoken.{step_at}
use Rattle.rk_traces.proofs.difference.first_difference.Given as goal

-- no answer has differed yet
abbrev pub invariant-steps : goal.invariant-steps
invariant-steps l =
    record {
      alike : (k : ℕ) → k < l.i → (step_at k l.a.steps).answer ≡ (step_at k l.b.steps).answer;
      xs : l.xs ≡ drop l.i l.a.steps;
      ys : l.ys ≡ drop l.i l.b.steps;
    }
