use Rattle.std.proofs.Common.{sym, subst}
use Rattle.tr_record.specs.Pool.{Pool}
use Rattle.tr_codec.specs.NodesRead.{AreTold}
use Rattle.tr_codec.proofs.OldRowLemmas.{chained_none, chained_more, chained_dear}
use Rattle.tr_codec.proofs.old_records.chained.Goals as goal

pub steps-init : goal.steps-init
steps-init c = chained_none c.args.pool.now c.args.steps.items

pub returns-in-None-clause-told : goal.returns-in-None-clause-told
returns-in-None-clause-told c = λ texts h first.
    let kept = rw c.in-None.is at c.in_ok-push.ensures.kept in
    subst (λ (p : Pool). AreTold texts p) (sym kept) ((c.steps.invariant.told texts h).1 first)

pub returns-in-None-clause-none : goal.returns-in-None-clause-none
returns-in-None-clause-none c =
    chained_dear c.args.pool.now c.steps.pool c.args.steps.items c.steps.left.items c.pop.new.self.items c.steps.head c.in-Some.step c.in-Some.number c.steps.invariant c.in-Some.ensures.items
    (rw c.in-None.is at c.in_ok-push.ensures.none)

pub steps-preserved : goal.steps-preserved
steps-preserved c =
    chained_more c.args.pool.now c.steps.pool c.args.steps.items c.steps.left.items c.pop.new.self.items c.steps.head c.in-Some.step c.in-Some.number c.steps.invariant c.in-Some.ensures.items
    c.push.new.self c.in-Some-2.now
    (rw c.in-Some-2.is at c.in_ok-push.ensures.nodes) (rw c.in-Some-2.is at c.in_ok-push.ensures.number) (rw c.in-Some-2.is at c.in_ok-push.ensures.steps)

pub returns-clause-told : goal.returns-clause-told
returns-clause-told c = λ texts h. (c.steps.invariant.told texts h).1
