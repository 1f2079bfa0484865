use Rattle.std.proofs.Common.{sym, ap, ◌∙◌}
use Rattle.sh_means.specs.declared.control.Control.{Control}
use Rattle.sh_means.specs.Stack.{context, resumed, stepped}
use Rattle.sh_means.specs.Views.{shell_of}
use Rattle.sh_eval.proofs.Turning.{stepped_after, sheds}
use Rattle.sh_eval.proofs.machine.Evaluator.step.Goals as goal

pub returns-clause-talk : goal.returns-clause-talk
returns-clause-talk c =
    λ p. ap (λ (ctl : Control). resumed ctl (context c.args.self.now.shell.stack.items) c.args.answer (shell_of c.args.self.now.shell.state) p) (sym c.take-control.ensures)
    ∙ c.in_ok-turn.ensures.talk p
    ∙ ap (λ (ctl : Control). stepped c.in_ok-turn.field-0.turn ctl (context c.act.new.shell.stack.items) (shell_of c.act.new.shell.state) p) (sym c.put.ensures)
    ∙ stepped_after c.in_ok-turn.field-0.turn (record { shell = c.act.new.shell; control = c.put.new.control }) p

pub returns-clause-costly : goal.returns-clause-costly
returns-clause-costly c =
    sheds c.args.self.now (record { shell = c.act.new.shell; control = c.put.new.control }) c.in_ok-turn.field-0 c.take-control.result c.take-control.ensures c.put.ensures c.in_ok-turn.ensures.costly
