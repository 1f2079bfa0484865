use Rattle.std.proofs.Common.{List, ◌∙◌, refl, sym, subst, rules}
use Rattle.tr_record.specs.declared.pool.StepNode.{StepNode}
use Rattle.tr_record.specs.Pool.{AreNoted}
use Rattle.tr_record.proofs.PoolLemmas.{noted_push, steps_push}
use Rattle.tr_record.proofs.pool.StepPool.push.Goals as goal

pub invariant_of-self : goal.invariant_of-self
invariant_of-self c = subst (λ (l : List StepNode). AreNoted l) (sym c.in_err-push.ensures.items) c.self.invariant

pub invariant_of-self-2 : goal.invariant_of-self-2
invariant_of-self-2 c =
    noted_push c.self.inside.nodes.items c.push.new.self.items c.args.self.now c.self.view_is _ c.in_ok-push.ensures.items c.count-count.result c.self.invariant c.requires refl c.count-count.ensures.value c.count-count.ensures.few (search rules)

pub returns-clause-steps : goal.returns-clause-steps
returns-clause-steps c = steps_push c.self.inside.nodes.items c.push.new.self.items c.args.self.now c.self.view_is _ c.in_ok-push.ensures.items c.len.result (c.len.ensures ∙ c.push.new.self.ok.0)
