use Rattle.std.proofs.Common.{◌≡◌, ◌+◌, ◌≤◌, List, Some, slice_get, length, sym, ap, ◌∙◌, subst, arith}
use Rattle.ut_places.specs.declared.places.Places.{Places}
use Rattle.ut_places.specs.Steps.{Counted, Leads}
use Rattle.ut_places.proofs.StepLemmas.{IsEach, at-some, each-first, each-more, each-all}
use Rattle.ut_places.proofs.steps.counted_each.Goals as goal

pub sets-init : goal.sets-init
sets-init c = subst (λ (all : List Places). IsEach (Counted (Leads c.args.table.now) c.args.least c.args.more) c.args.sets.now 0 all) (sym c.new-all.ensures.items) (each-first (Counted (Leads c.args.table.now) c.args.least c.args.more) c.args.sets.now)

pub sets-preserved : goal.sets-preserved
sets-preserved c =
    let R = Counted (Leads c.args.table.now) c.args.least c.args.more in
    let sets = c.args.sets.now in
    let n = c.sets.set-index in
    let set = c.set-item.result in
    let read : slice_get sets n ≡ Some set = at-some sets n set c.sets-test.true ∙ ap Some (sym c.set-item.is) in
    subst (λ (all : List Places). IsEach R sets (n + 1) all) (sym c.in_ok-push.ensures.items) (each-more R sets c.sets.all.items set c.in_ok-to.to n read c.in_ok-to.ensures c.sets.invariant)

pub returns : goal.returns
returns c =
    let R = Counted (Leads c.args.table.now) c.args.least c.args.more in
    let sets = c.args.sets.now in
    let n = c.sets.set-index in
    let all : length sets ≤ n = c.sets-test.false in
    let count : length c.sets.all.items ≡ n = c.sets.invariant.count in
    record { count = omega arith; leads = each-all R sets c.sets.all.items n all c.sets.invariant }
