use Rattle.std.proofs.Common.{ap, ◌∙◌}
use Rattle.rk_base.specs.Canonical.{is_empty}
use Rattle.rk_seal.proofs.PlanLemmas.{plan-list, plan-none, plan-not}
use Rattle.rk_seal.proofs.plan.Plan.new.Goals as goal

pub returns-then-are_none : goal.returns-then-are_none
returns-then-are_none c = plan-none c.args.ops.items c.args.fresh_list c.are_none.result (c.are_none.ensures ∙ ap is_empty c.deref.ensures.value) c.if-are_none.true

pub returns-in-Some : goal.returns-in-Some
returns-in-Some c = plan-list c.args.ops.items c.in-Some.list c.args.fresh_list c.are_none.result c.from_vec.result (c.are_none.ensures ∙ ap is_empty c.deref.ensures.value) c.if-are_none.false c.from_vec.ensures c.in-Some.is

pub returns-in-None : goal.returns-in-None
returns-in-None c = plan-not c.args.ops.items c.args.fresh_list c.are_none.result c.from_vec.result (c.are_none.ensures ∙ ap is_empty c.deref.ensures.value) c.if-are_none.false c.from_vec.ensures c.in-None.is
