use Rattle.std.proofs.Common.{◌≡◌, ℕ}
use Rattle.sh_expand.specs.Globbing.{Found}
use Rattle.sh_expand.specs.Stages.{stage_talk, weight}
use Rattle.sh_expand.proofs.steps.run.Given as goal

abbrev pub invariant-steps : goal.invariant-steps
invariant-steps l = (k : Found) (n p : ℕ) → stage_talk l.wd l.initial.components.items l.initial.stage k n p ≡ stage_talk l.wd l.components.items l.stage k n p

abbrev pub decreases-steps : goal.decreases-steps
decreases-steps l = weight l.components.items l.stage
