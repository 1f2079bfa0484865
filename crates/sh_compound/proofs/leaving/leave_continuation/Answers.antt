use Rattle.std.proofs.Common.{ap, ◌∙◌, arith}
use Rattle.sh_means.specs.declared.control.Continuation.{Continuation}
use Rattle.sh_means.specs.Stack.{context, continued}
use Rattle.sh_means.specs.Views.{shell_of}
use Rattle.sh_means.proofs.Undone.{stage_back}
use Rattle.sh_means.specs.Weights.{weigh_continuation}
use Rattle.sh_compound.proofs.leaving.leave_continuation.Goals as goal

pub returns-in-Rest-clause-talk : goal.returns-in-Rest-clause-talk
returns-in-Rest-clause-talk c =
    λ p. ap (λ (x : Continuation). continued x (context c.args.shell.now.stack.items) c.args.flow (shell_of c.args.shell.now.state) p) c.in-Rest.is
    ∙ c.leave_rest.ensures.talk (context c.args.shell.now.stack.items) (shell_of c.args.shell.now.state) p

pub returns-in_ok-control-in-Links-clause-talk : goal.returns-in_ok-control-in-Links-clause-talk
returns-in_ok-control-in-Links-clause-talk c =
    λ p. ap (λ (x : Continuation). continued x (context c.args.shell.now.stack.items) c.args.flow (shell_of c.args.shell.now.state) p) c.in-Links.is
    ∙ c.in_ok-control-in-Links.ensures.talk p

pub returns-in-Stage-clause-talk : goal.returns-in-Stage-clause-talk
returns-in-Stage-clause-talk c =
    λ p. ap (λ (x : Continuation). continued x (context c.args.shell.now.stack.items) c.args.flow (shell_of c.args.shell.now.state) p) c.in-Stage.is
    ∙ stage_back c.in-Stage.place c.in-Stage.list c.in-Stage.at c.in-Stage.read_end c.in-Stage.status c.in-Stage.saved (context c.args.shell.now.stack.items) c.args.flow (shell_of c.args.shell.now.state) (shell_of c.come_back.new.self) p c.come_back.ensures

pub returns-in-Watch-clause-talk : goal.returns-in-Watch-clause-talk
returns-in-Watch-clause-talk c =
    λ p. ap (λ (x : Continuation). continued x (context c.args.shell.now.stack.items) c.args.flow (shell_of c.args.shell.now.state) p) c.in-Watch.is
    ∙ c.leave_watch.ensures.talk (context c.args.shell.now.stack.items) p

pub returns-in-Invert-clause-talk : goal.returns-in-Invert-clause-talk
returns-in-Invert-clause-talk c =
    λ p. ap (λ (x : Continuation). continued x (context c.args.shell.now.stack.items) c.args.flow (shell_of c.args.shell.now.state) p) c.in-Invert.is
    ∙ c.leave_invert.ensures.talk (context c.args.shell.now.stack.items) p

pub returns-in_ok-control-in-Condition-clause-talk : goal.returns-in_ok-control-in-Condition-clause-talk
returns-in_ok-control-in-Condition-clause-talk c =
    λ p. ap (λ (x : Continuation). continued x (context c.args.shell.now.stack.items) c.args.flow (shell_of c.args.shell.now.state) p) c.in-Condition.is
    ∙ c.in_ok-control-in-Condition.ensures.talk p

pub returns-in-Body-clause-talk : goal.returns-in-Body-clause-talk
returns-in-Body-clause-talk c =
    λ p. ap (λ (x : Continuation). continued x (context c.args.shell.now.stack.items) c.args.flow (shell_of c.args.shell.now.state) p) c.in-Body.is
    ∙ c.leave_body.ensures.talk (context c.args.shell.now.stack.items) p

pub returns-in-Each-clause-talk : goal.returns-in-Each-clause-talk
returns-in-Each-clause-talk c =
    λ p. ap (λ (x : Continuation). continued x (context c.args.shell.now.stack.items) c.args.flow (shell_of c.args.shell.now.state) p) c.in-Each.is
    ∙ c.leave_each.ensures.talk (context c.args.shell.now.stack.items) (shell_of c.args.shell.now.state) p

pub returns-in-Choose-clause-talk : goal.returns-in-Choose-clause-talk
returns-in-Choose-clause-talk c =
    λ p. ap (λ (x : Continuation). continued x (context c.args.shell.now.stack.items) c.args.flow (shell_of c.args.shell.now.state) p) c.in-Choose.is
    ∙ c.leave_choose.ensures.talk (context c.args.shell.now.stack.items) p

pub returns-in-Rest-clause-weight : goal.returns-in-Rest-clause-weight
returns-in-Rest-clause-weight c = omega (arith, ap weigh_continuation c.in-Rest.is, c.leave_rest.ensures.weight)

pub returns-in_ok-control-in-Links-clause-weight : goal.returns-in_ok-control-in-Links-clause-weight
returns-in_ok-control-in-Links-clause-weight c = omega (arith, ap weigh_continuation c.in-Links.is, c.in_ok-control-in-Links.ensures.weight)

pub returns-in-Stage-clause-weight : goal.returns-in-Stage-clause-weight
returns-in-Stage-clause-weight c = omega (arith, ap weigh_continuation c.in-Stage.is)

pub returns-in-Watch-clause-weight : goal.returns-in-Watch-clause-weight
returns-in-Watch-clause-weight c = omega (arith, ap weigh_continuation c.in-Watch.is, c.leave_watch.ensures.weight)

pub returns-in-Invert-clause-weight : goal.returns-in-Invert-clause-weight
returns-in-Invert-clause-weight c = omega (arith, ap weigh_continuation c.in-Invert.is, c.leave_invert.ensures.weight)

pub returns-in_ok-control-in-Condition-clause-weight : goal.returns-in_ok-control-in-Condition-clause-weight
returns-in_ok-control-in-Condition-clause-weight c = omega (arith, ap weigh_continuation c.in-Condition.is, c.in_ok-control-in-Condition.ensures.weight)

pub returns-in-Body-clause-weight : goal.returns-in-Body-clause-weight
returns-in-Body-clause-weight c = omega (arith, ap weigh_continuation c.in-Body.is, c.leave_body.ensures.weight)

pub returns-in-Each-clause-weight : goal.returns-in-Each-clause-weight
returns-in-Each-clause-weight c = omega (arith, ap weigh_continuation c.in-Each.is, c.leave_each.ensures.weight)

pub returns-in-Choose-clause-weight : goal.returns-in-Choose-clause-weight
returns-in-Choose-clause-weight c = omega (arith, ap weigh_continuation c.in-Choose.is, c.leave_choose.ensures.weight)
