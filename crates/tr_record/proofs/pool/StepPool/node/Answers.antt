use Rattle.std.proofs.Common.{◌≤◌, length, subst, sym}
use Rattle.tr_record.specs.Pool.{Pool, AreSteps, IsUnder}
use Rattle.tr_record.proofs.PoolLemmas.{are_steps, read_under}
use Rattle.tr_record.proofs.pool.StepPool.node.Goals as goal

pub returns-clause-some : goal.returns-clause-some
returns-clause-some c =
    subst (λ (p : Pool). IsUnder p c.args.number c.index.result.now) c.self.view_is
    (read_under c.self.inside.nodes.items c.args.number _ _ c.self.invariant c.if-number-eq0.false (subst (λ (p : Pool). c.args.number ≤ length p.nodes) (sym c.self.view_is) c.requires) c.index.ensures)

pub returns-clause-steps : goal.returns-clause-steps
returns-clause-steps c = subst (λ (p : Pool). AreSteps p.nodes) c.self.view_is (are_steps c.self.inside.nodes.items c.self.invariant)

pub returns-then-number-eq0-clause-steps : goal.returns-then-number-eq0-clause-steps
returns-then-number-eq0-clause-steps c = subst (λ (p : Pool). AreSteps p.nodes) c.self.view_is (are_steps c.self.inside.nodes.items c.self.invariant)
