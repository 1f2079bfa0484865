use Rattle.std.proofs.Common.{◌≡◌, suc, ◌+◌, subst, arith}
use Rattle.ut_places.specs.Steps.{Steps, Leads, IsImage}
use Rattle.ut_places.proofs.StepLemmas.{no-step, step-more}
use Rattle.ut_places.proofs.steps.after.Goals as goal

pub steps-init : goal.steps-init
steps-init c = no-step (Leads c.args.table.now) c.args.set.now c.in_ok-here.here c.in_ok-here.ensures

pub steps-preserved : goal.steps-preserved
steps-preserved c =
    let R = Leads c.args.table.now in
    let n = c.steps.counter in
    let z : suc n ≡ n + 1 = omega arith in
    subst (λ m. IsImage (Steps R m) c.args.set.now c.in_ok-here-2.here) z (step-more R c.args.set.now c.steps.here c.in_ok-here-2.here n c.steps.invariant c.in_ok-here-2.ensures)

pub returns : goal.returns
returns c =
    let z : c.steps.counter ≡ c.args.least = omega arith in
    subst (λ m. IsImage (Steps (Leads c.args.table.now) m) c.args.set.now c.steps.here) z c.steps.invariant
