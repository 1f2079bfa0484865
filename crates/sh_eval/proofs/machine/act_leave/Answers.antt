use Rattle.std.proofs.Common.{ap, ◌∙◌, arith}
use Rattle.sh_means.specs.declared.control.Frame.{Frame}
use Rattle.sh_means.specs.Flows.{Next}
use Rattle.sh_means.specs.Stack.{context, above}
use Rattle.sh_means.specs.Views.{shell_of}
use Rattle.sh_means.specs.Weights.{weigh_frame}
use Rattle.sh_means.proofs.Weighing.{falls_over}
use Rattle.sh_eval.proofs.machine.act_leave.Goals as goal

pub returns-in-None-clause-talk : goal.returns-in-None-clause-talk
returns-in-None-clause-talk c =
    let e = shell_of c.args.shell.now.state in
    λ p. ap (λ (k : Next). k c.args.flow e p) c.in-None.ensures.talk

pub returns-in_ok-control-in-Some-Continuation-clause-talk : goal.returns-in_ok-control-in-Some-Continuation-clause-talk
returns-in_ok-control-in-Some-Continuation-clause-talk c =
    let e = shell_of c.args.shell.now.state in
    λ p. ap (λ (k : Next). k c.args.flow e p) c.in-Some-Continuation.ensures.talk
    ∙ ap (λ (f : Frame). above f (context c.pop.new.stack.items) c.args.flow e p) c.in-Some-Continuation.field-0-is
    ∙ c.in_ok-control-in-Some-Continuation.ensures.talk p ∙ c.free.ensures.talk (context c.leave_continuation.new.shell.stack.items) (shell_of c.leave_continuation.new.shell.state) p

pub returns-in_ok-control-in-Some-Undo-clause-talk : goal.returns-in_ok-control-in-Some-Undo-clause-talk
returns-in_ok-control-in-Some-Undo-clause-talk c =
    let e = shell_of c.args.shell.now.state in
    λ p. ap (λ (k : Next). k c.args.flow e p) c.in-Some-Undo.ensures.talk
    ∙ ap (λ (f : Frame). above f (context c.pop.new.stack.items) c.args.flow e p) c.in-Some-Undo.field-0-is
    ∙ c.in_ok-control-in-Some-Undo.ensures.talk (context c.pop.new.stack.items) p ∙ c.free-in-Some-Undo.ensures.talk (context c.pop.new.stack.items) (shell_of c.leave_undo.new.state) p

pub returns-in-None-clause-costly : goal.returns-in-None-clause-costly
returns-in-None-clause-costly c = λ m le. falls_over m _ _ 0 _

pub returns-in_ok-control-in-Some-Continuation-clause-costly : goal.returns-in_ok-control-in-Some-Continuation-clause-costly
returns-in_ok-control-in-Some-Continuation-clause-costly c = λ m le. c.free.ensures.costly m _ (omega (arith, c.in-Some-Continuation.ensures.weight, ap weigh_frame c.in-Some-Continuation.field-0-is, c.in_ok-control-in-Some-Continuation.ensures.weight))

pub returns-in_ok-control-in-Some-Undo-clause-costly : goal.returns-in_ok-control-in-Some-Undo-clause-costly
returns-in_ok-control-in-Some-Undo-clause-costly c = λ m le. c.free-in-Some-Undo.ensures.costly m _ (omega (arith, c.in-Some-Undo.ensures.weight, ap weigh_frame c.in-Some-Undo.field-0-is, c.in_ok-control-in-Some-Undo.ensures.weight))
