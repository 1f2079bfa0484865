use Rattle.std.proofs.Common.{◌≡◌, refl, suc, ◌+◌, ◌≤◌, subst, arith}
use Rattle.ut_places.specs.Steps.{Leads}
use Rattle.ut_places.proofs.StepLemmas.{IsWave, wave-first, wave-more, wave-end}
use Rattle.ut_places.proofs.steps.up_to.Goals as goal

pub steps-init : goal.steps-init
steps-init c = wave-first (Leads c.args.table.now) c.args.set.now c.in_ok-all.all c.in_ok-new.new c.in_ok-all.ensures c.in_ok-new.ensures

pub returns-then-is_empty : goal.returns-then-is_empty
returns-then-is_empty c =
    let le : c.steps.counter ≤ c.args.most = omega arith in
    wave-end (Leads c.args.table.now) c.args.set.now c.steps.all c.steps.new c.steps.counter c.args.most le c.steps.invariant (c.if-is_empty.ensures refl)

pub steps-preserved : goal.steps-preserved
steps-preserved c =
    let R = Leads c.args.table.now in
    let n = c.steps.counter in
    let z : suc n ≡ n + 1 = omega arith in
    subst (λ m. IsWave R c.args.set.now c.add.new.self c.remove.new.self m) z (wave-more R c.args.set.now c.steps.all c.steps.new c.in_ok-new-2.new c.add.new.self c.remove.new.self n c.steps.invariant c.in_ok-new-2.ensures c.remove.ensures c.in_ok-add.ensures)

pub returns : goal.returns
returns c =
    let z : c.steps.counter ≡ c.args.most = omega arith in
    (subst (λ m. IsWave (Leads c.args.table.now) c.args.set.now c.steps.all c.steps.new m) z c.steps.invariant).image
