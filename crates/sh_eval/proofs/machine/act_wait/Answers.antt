use Rattle.std.proofs.Common.{ℕ, sym, ap, ◌∙◌, arith}
use Rattle.sh_means.specs.declared.control.Wait.{Wait}
use Rattle.sh_means.specs.Flows.{ends}
use Rattle.sh_means.specs.Stack.{context, waiting}
use Rattle.sh_means.specs.Views.{shell_of}
use Rattle.sh_means.specs.Weights.{weigh_wait}
use Rattle.sh_means.proofs.Weighing.{lowers_more, sinks_lower}
use Rattle.sh_eval.proofs.machine.act_wait.Goals as goal

pub returns-in-Told-clause-talk : goal.returns-in-Told-clause-talk
returns-in-Told-clause-talk c =
    let k = context c.args.shell.now.stack.items in
    let e = shell_of c.args.shell.now.state in
    λ p. ap (λ (x : Wait). waiting x k c.args.answer e p) c.in-Told.is ∙ c.end.ensures.talk k p

pub returns-in-Launched-clause-talk : goal.returns-in-Launched-clause-talk
returns-in-Launched-clause-talk c =
    let k = context c.args.shell.now.stack.items in
    let e = shell_of c.args.shell.now.state in
    λ p. ap (λ (x : Wait). waiting x k c.args.answer e p) c.in-Launched.is ∙ ap (λ (n : ℕ). ends c.in-Launched.flow n k e p) (sym c.joined.ensures) ∙ c.end-in-Launched.ensures.talk k p

pub returns-in_ok-control-in-Stage-clause-talk : goal.returns-in_ok-control-in-Stage-clause-talk
returns-in_ok-control-in-Stage-clause-talk c =
    let k = context c.args.shell.now.stack.items in
    let e = shell_of c.args.shell.now.state in
    λ p. ap (λ (x : Wait). waiting x k c.args.answer e p) c.in-Stage.is ∙ c.in_ok-control-in-Stage.ensures.talk p ∙ c.free.ensures.talk (context c.act_stage.new.shell.stack.items) (shell_of c.act_stage.new.shell.state) p

pub returns-in-Told-clause-costly : goal.returns-in-Told-clause-costly
returns-in-Told-clause-costly c = λ m le. c.end.ensures.costly m _ (omega (arith, ap weigh_wait c.in-Told.is))

pub returns-in-Launched-clause-costly : goal.returns-in-Launched-clause-costly
returns-in-Launched-clause-costly c = λ m le. c.end-in-Launched.ensures.costly m _ (omega (arith, ap weigh_wait c.in-Launched.is))

pub returns-in_ok-control-in-Stage-clause-costly : goal.returns-in_ok-control-in-Stage-clause-costly
returns-in_ok-control-in-Stage-clause-costly c = λ m le. c.free.ensures.costly m _ (omega (arith, ap weigh_wait c.in-Stage.is, c.in_ok-control-in-Stage.ensures.weight))

pub returns-in-Opened-clause-costly : goal.returns-in-Opened-clause-costly
returns-in-Opened-clause-costly c = sinks_lower c.dot_opened.result _ _ _ c.dot_opened.ensures.costly (omega (arith, ap weigh_wait c.in-Opened.is))

pub returns-in-Read-clause-costly : goal.returns-in-Read-clause-costly
returns-in-Read-clause-costly c = lowers_more c.dot_read.result _ _ _ _ _ c.dot_read.ensures.costly (omega (arith, ap weigh_wait c.in-Read.is))

pub returns-in-Redirects-clause-costly : goal.returns-in-Redirects-clause-costly
returns-in-Redirects-clause-costly c = lowers_more c.resume_redirection.result _ _ _ _ _ c.resume_redirection.ensures.costly (omega (arith, ap weigh_wait c.in-Redirects.is))

pub returns-in-Fails-clause-costly : goal.returns-in-Fails-clause-costly
returns-in-Fails-clause-costly c = sinks_lower c.refuse.result _ _ _ c.refuse.ensures.costly (omega (arith, ap weigh_wait c.in-Fails.is))

pub returns-in-Builtin-clause-costly : goal.returns-in-Builtin-clause-costly
returns-in-Builtin-clause-costly c = sinks_lower c.resume_builtin.result _ _ _ c.resume_builtin.ensures.costly (omega (arith, ap weigh_wait c.in-Builtin.is))
