use Rattle.std.proofs.Common.{◌<◌, arith, ◌≡◌, ◌+◌}
use Rattle.sh_means.specs.Stack.{context}
use Rattle.sh_means.proofs.Bounds.{branch_small}
use Rattle.sh_compound.proofs.Branching.{if_begun, if_over}
use Rattle.sh_means.specs.Weights.{branches_left}
use Rattle.sh_means.proofs.Weighing.{branch_less, branches_same}
use Rattle.sh_compound.proofs.compounds.act_if.Goals as goal

pub overflow_add-next : goal.overflow_add-next
overflow_add-next c = let small : c.args.left.at < 9223372036854775808 = branch_small c.deref.result.now c.args.left.at _ c.in-Some.ensures in omega arith

pub returns-in-Some-clause-talk : goal.returns-in-Some-clause-talk
returns-in-Some-clause-talk c =
    λ e p. if_begun c.args.left.branches c.in_ok-rest.rest c.deref.result.now c.in-Some.branch.now c.in_ok-condition-in-Some.condition c.in_ok-body-in-Some.body c.args.left.otherwise c.args.left.at c.args.place (context c.args.stack.now.items) (context c.put_continuation.new.stack.items) e p c.deref.ensures c.in-Some.ensures c.in_ok-rest.ensures.cases c.in_ok-condition-in-Some.ensures.cases c.in_ok-body-in-Some.ensures.cases c.in_ok-put_continuation-in-Some.ensures.talk

pub returns-clause-talk : goal.returns-clause-talk
returns-clause-talk c =
    λ e p. if_over c.args.left.branches.value c.deref.result.now c.args.left.otherwise.value c.args.left.at c.args.place (context c.args.stack.now.items) e p c.deref.ensures c.in-None.ensures

pub returns-in-Some-clause-weight : goal.returns-in-Some-clause-weight
returns-in-Some-clause-weight c =
    let less : branches_left c.args.left.branches.value c.args.left.at ≡ branches_left c.args.left.branches.value (c.args.left.at + 1) + 1 = branch_less c.deref.result.now c.args.left.branches.value c.args.left.at _ c.deref.ensures c.in-Some.ensures in
    let same : branches_left c.in_ok-rest.rest.value (c.args.left.at + 1) ≡ branches_left c.args.left.branches.value (c.args.left.at + 1) = branches_same c.in_ok-rest.rest.value c.args.left.branches.value (c.args.left.at + 1) c.in_ok-rest.ensures.cases in
    omega (arith, c.in_ok-put_continuation-in-Some.ensures.weight)
