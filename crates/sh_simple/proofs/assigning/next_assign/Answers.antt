use Rattle.std.proofs.Common.{◌<◌, ◌∙◌, arith, ◌≡◌, ◌+◌}
use Rattle.std.proofs.lemmas.Result.{IfOk-weaker}
use Rattle.sh_means.specs.Stack.{context}
use Rattle.sh_means.specs.Views.{shell_of}
use Rattle.sh_means.proofs.Begun.{assign_next, assigns_over}
use Rattle.sh_means.proofs.Bounds.{assignment_small}
use Rattle.sh_means.specs.Weights.{assignments_left}
use Rattle.sh_means.proofs.Weighing.{assignment_less, lowers_more}
use Rattle.sh_simple.proofs.assigning.next_assign.Goals as goal

pub overflow_add-left : goal.overflow_add-left
overflow_add-left c = let small : c.args.left.at < 9223372036854775808 = assignment_small c.deref.result.now c.args.left.at _ c.in-Some.ensures in omega arith

pub returns-in_ok-wording-in-Some-clause-talk : goal.returns-in_ok-wording-in-Some-clause-talk
returns-in_ok-wording-in-Some-clause-talk c =
    let k = context c.args.shell.now.stack.items in
    let e = shell_of c.args.shell.now.state in
    IfOk-weaker c.act_expand.result _ _
    (λ t told p. assign_next c.args.left c.args.place k e c.deref.result.now c.in-Some.assignment.now c.in_ok-name-in-Some.name c.in_ok-value-in-Some.value p (c.deref.ensures ∙ c.in_ok-assignments.ensures.cases) c.in_ok-value-in-Some.ensures.cases c.in_ok-name-in-Some.ensures c.in-Some.ensures
    ∙ c.in_ok-wording-in-Some.ensures.talk k e p ∙ told p)
    c.act_expand.ensures.talk

pub returns-in_ok-acted-in-None-clause-talk : goal.returns-in_ok-acted-in-None-clause-talk
returns-in_ok-acted-in-None-clause-talk c =
    let k = context c.args.shell.now.stack.items in
    λ p. assigns_over c.args.left c.args.place k (shell_of c.args.shell.now.state) c.deref.result.now p (c.deref.ensures ∙ c.in_ok-assignments.ensures.cases) c.in-None.ensures ∙ c.in_ok-acted-in-None.ensures.talk p

pub returns-in_ok-wording-in-Some-clause-costly : goal.returns-in_ok-wording-in-Some-clause-costly
returns-in_ok-wording-in-Some-clause-costly c =
    let less : assignments_left c.args.left.assignments.value c.args.left.at ≡ assignments_left c.args.left.assignments.value (c.args.left.at + 1) + 1 = assignment_less c.deref.result.now c.args.left.assignments.value c.args.left.at _ (c.deref.ensures ∙ c.in_ok-assignments.ensures.cases) c.in-Some.ensures in
    lowers_more c.act_expand.result _ _ _ _ _ c.act_expand.ensures.costly (omega (arith, less, c.in_ok-wording-in-Some.ensures.weight))

pub returns-in_ok-acted-in-None-clause-costly : goal.returns-in_ok-acted-in-None-clause-costly
returns-in_ok-acted-in-None-clause-costly c = λ m le. c.in_ok-acted-in-None.ensures.costly m (omega arith)
