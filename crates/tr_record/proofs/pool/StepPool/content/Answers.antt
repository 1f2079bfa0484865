use Rattle.std.proofs.Common.{subst}
use Rattle.tr_record.specs.Pool.{Pool, AreSteps}
use Rattle.tr_record.proofs.PoolLemmas.{are_steps}
use Rattle.tr_record.proofs.pool.StepPool.content.Goals as goal

pub returns-then-number-len-clause-steps : goal.returns-then-number-len-clause-steps
returns-then-number-len-clause-steps c = subst (λ (p : Pool). AreSteps p.nodes) c.self.view_is (are_steps c.self.inside.nodes.items c.self.invariant)
