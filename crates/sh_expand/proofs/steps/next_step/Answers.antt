use Rattle.std.proofs.Common.{sym, subst}
use Rattle.sh_expand.specs.declared.steps.Stage.{Stage}
use Rattle.sh_expand.specs.Stages.{stage_talk, IsStep, IsShorter, weight}
use Rattle.sh_expand.proofs.steps.next_step.Goals as goal

pub returns-in_ok-step-in-Matching-clause-step : goal.returns-in_ok-step-in-Matching-clause-step
returns-in_ok-step-in-Matching-clause-step c =
    subst (λ (s : Stage). IsStep (λ k. stage_talk c.args.wd.now c.args.components.now.items s k) c.args.wd.now c.args.components.now.items c.in_ok-step-in-Matching.step) (sym c.in-Matching.is) (c.in_ok-step-in-Matching.ensures.step c.args.components.now.items)

pub returns-in_ok-step-in-Matching-clause-shorter :
    goal.returns-in_ok-step-in-Matching-clause-shorter
returns-in_ok-step-in-Matching-clause-shorter c =
    subst (λ (s : Stage). IsShorter (weight c.args.components.now.items s) c.args.components.now.items c.in_ok-step-in-Matching.step) (sym c.in-Matching.is) (c.in_ok-step-in-Matching.ensures.shorter c.args.components.now.items)

pub returns-in_ok-step-in-Checking-clause-step : goal.returns-in_ok-step-in-Checking-clause-step
returns-in_ok-step-in-Checking-clause-step c =
    subst (λ (s : Stage). IsStep (λ k. stage_talk c.args.wd.now c.args.components.now.items s k) c.args.wd.now c.args.components.now.items c.in_ok-step-in-Checking.step) (sym c.in-Checking.is) (c.in_ok-step-in-Checking.ensures.step c.args.components.now.items)

pub returns-in_ok-step-in-Checking-clause-shorter :
    goal.returns-in_ok-step-in-Checking-clause-shorter
returns-in_ok-step-in-Checking-clause-shorter c = c.in_ok-step-in-Checking.ensures.shorter c.args.components.now.items (weight c.args.components.now.items c.args.stage)
