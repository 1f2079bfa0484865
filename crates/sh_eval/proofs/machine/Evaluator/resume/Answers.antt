use Rattle.std.proofs.Common.{◌∙◌, ap, sym}
use Rattle.sh_eval.proofs.Turning.{after_free, costly_step, not_free}
use Rattle.sh_means.specs.Stack.{context, resumed}
use Rattle.sh_means.specs.State.{Shell}
use Rattle.sh_eval.proofs.machine.Evaluator.resume.Goals as goal

pub free-preserved : goal.free-preserved
free-preserved c = λ p. c.free.invariant p ∙ c.in_ok-turn.ensures.talk p ∙ after_free c.in_ok-turn.turn c.step.new.self p (c.is_free.ensures.0 c.if-is_free.true)

pub free-smaller : goal.free-smaller
free-smaller c = c.in_ok-turn.ensures.costly.1 (c.is_free.ensures.0 c.if-is_free.true)

pub returns-else-is_free-clause-costly : goal.returns-else-is_free-clause-costly
returns-else-is_free-clause-costly c = costly_step c.in_ok-turn.turn c.in_ok-turn.ensures.costly.0 (not_free c.is_free.result c.in_ok-turn.turn c.is_free.ensures c.if-is_free.false)

pub returns-else-is_free-clause-talk : goal.returns-else-is_free-clause-talk
returns-else-is_free-clause-talk c = λ p. c.free.invariant p ∙ c.in_ok-turn.ensures.talk p

pub free-init : goal.free-init
free-init c = λ p. ap (λ (e : Shell). resumed c.args.self.now.control (context c.args.self.now.shell.stack.items) c.args.answer e p) (sym c.hear.ensures)
