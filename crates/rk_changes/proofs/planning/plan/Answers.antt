use Rattle.std.proofs.Common.{◌≡◌, ◌⊎◌, ◌++◌, [], List, IsSome, Option, true, sym, subst, ◌∙◌}
use Rattle.rk_seal.specs.Ops.{are_calls}
use Rattle.rk_seal.specs.declared.ops.Op.{Op}
use Rattle.rk_seal.specs.declared.plan.Plan.{Plan}
use Rattle.rk_changes.specs.Planned.{back_calls, front_calls}
use Rattle.rk_changes.proofs.FullPlanLemmas.{plan-in-full}
use Rattle.rk_changes.proofs.ListLemmas.{planned-are}
use Rattle.rk_changes.proofs.PlanLemmas.{plan-some}
use Rattle.rk_changes.proofs.planning.plan.Goals as goal

pub returns-clause-planned : goal.returns-clause-planned
returns-clause-planned g c =
    let ops : c.in_ok-ops.ops.items ≡ front_calls c.args.before.now c.args.after.now ++ (c.in_ok-writings.writings.items ++ back_calls c.args.before.now c.args.after.now) =
    c.in_ok-ops.ensures ∙ λ i. c.in_ok-front.ensures.front i ++ (c.in_ok-writings.writings.items ++ c.in_ok-front.ensures.back i) in
    plan-in-full (g.G.Fetch.told c.args.fetch.now) c.args.before.now c.args.after.now c.new.result c.in_ok-ops.ops.items c.in_ok-writings.writings.items c.new.ensures ops c.in_ok-writings.ensures.ops

pub returns-clause-whole : goal.returns-clause-whole
returns-clause-whole g c = λ whole new.
    let ops : c.in_ok-ops.ops.items ≡ front_calls c.args.before.now c.args.after.now ++ (c.in_ok-writings.writings.items ++ back_calls c.args.before.now c.args.after.now) =
    c.in_ok-ops.ensures ∙ λ i. c.in_ok-front.ensures.front i ++ (c.in_ok-writings.writings.items ++ c.in_ok-front.ensures.back i) in
    subst (λ (o : Option Plan). IsSome o) (sym c.new.ensures)
    (plan-some c.in_ok-ops.ops.items c.args.before.now.state.fresh_list
    (subst (λ (l : List Op). (l ≡ []) ⊎ (are_calls l ≡ true)) (sym ops) (planned-are c.args.before.now c.args.after.now c.in_ok-writings.writings.items whole new c.in_ok-writings.ensures.at)))
