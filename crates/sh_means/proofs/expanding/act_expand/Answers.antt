use Rattle.std.proofs.Common.{sym, ap, ◌∙◌, ◌≡◌, ◌<◌, subst, arith}
use Rattle.sh_means.specs.declared.control.PendingWord.{PendingWord}
use Rattle.sh_means.specs.Stack.{context, wording}
use Rattle.sh_means.specs.Views.{shell_of}
use Rattle.sh_means.proofs.Substituted.{body_stepped, word_stepped}
use Rattle.sh_expand.specs.declared.expander.Expanding.{Expanding}
use Rattle.sh_expand.specs.Turns.{Paces, bodies_due}
use Rattle.sh_means.specs.Weights.{weigh_word}
use Rattle.sh_means.proofs.Weighing.{falls_asked, falls_paid, falls_free}
use Rattle.sh_means.proofs.expanding.act_expand.Goals as goal

pub returns-in-Ask-clause-talk : goal.returns-in-Ask-clause-talk
returns-in-Ask-clause-talk c =
    λ p. word_stepped c.args.w.value c.deref_mut.result.now c.resume.new.self c.args.answer (shell_of c.args.shell.now.state) c.resume.new.env (context c.args.shell.now.stack.items) p c.in_ok-wants.wants _ c.deref_mut.ensures.value c.in_ok-wants.ensures.talk c.in-Ask.is

pub returns-in-More-clause-talk : goal.returns-in-More-clause-talk
returns-in-More-clause-talk c =
    λ p. word_stepped c.args.w.value c.deref_mut.result.now c.resume.new.self c.args.answer (shell_of c.args.shell.now.state) c.resume.new.env (context c.args.shell.now.stack.items) p c.in_ok-wants.wants _ c.deref_mut.ensures.value c.in_ok-wants.ensures.talk c.in-More.is

pub returns-in_ok-control-in-Body-clause-talk : goal.returns-in_ok-control-in-Body-clause-talk
returns-in_ok-control-in-Body-clause-talk c =
    λ p. ap (λ (w : PendingWord). wording w (context c.args.shell.now.stack.items) c.args.answer (shell_of c.args.shell.now.state) p) (sym c.deref_mut.ensures.value)
    ∙ body_stepped c.deref_mut.result.now c.resume.new.self c.args.answer (shell_of c.args.shell.now.state) c.resume.new.env c.in-Body.number (context c.args.shell.now.stack.items) p c.in_ok-wants.wants c.in_ok-wants.ensures.talk c.in-Body.is
    ∙ c.in_ok-control-in-Body.ensures.talk p ∙ c.free.ensures.talk (context c.enter_body.new.shell.stack.items) (shell_of c.enter_body.new.shell.state) p

pub returns-in-Done-clause-talk : goal.returns-in-Done-clause-talk
returns-in-Done-clause-talk c =
    λ p. word_stepped c.args.w.value c.deref_mut.result.now c.resume.new.self c.args.answer (shell_of c.args.shell.now.state) c.resume.new.env (context c.args.shell.now.stack.items) p c.in_ok-wants.wants _ c.deref_mut.ensures.value c.in_ok-wants.ensures.talk c.in-Done.is

pub returns-in-Fault-clause-talk : goal.returns-in-Fault-clause-talk
returns-in-Fault-clause-talk c =
    λ p. word_stepped c.args.w.value c.deref_mut.result.now c.resume.new.self c.args.answer (shell_of c.args.shell.now.state) c.resume.new.env (context c.args.shell.now.stack.items) p c.in_ok-wants.wants _ c.deref_mut.ensures.value c.in_ok-wants.ensures.talk c.in-Fault.is

pub returns-in-Ask-clause-costly : goal.returns-in-Ask-clause-costly
returns-in-Ask-clause-costly c =
    λ m le. falls_asked m _ c.in-Ask.call c.in-Ask.cost _ (subst (λ (t : Expanding). Paces (bodies_due c.deref_mut.result.now.expander) t (bodies_due c.resume.new.self)) c.in-Ask.is c.in_ok-wants.ensures.costly)

pub returns-in-More-clause-costly : goal.returns-in-More-clause-costly
returns-in-More-clause-costly c =
    λ m le. falls_paid m _ c.in-More.cost _ (subst (λ (t : Expanding). Paces (bodies_due c.deref_mut.result.now.expander) t (bodies_due c.resume.new.self)) c.in-More.is c.in_ok-wants.ensures.costly)

pub returns-in_ok-control-in-Body-clause-costly : goal.returns-in_ok-control-in-Body-clause-costly
returns-in_ok-control-in-Body-clause-costly c =
    let due : bodies_due c.resume.new.self < bodies_due c.deref_mut.result.now.expander = subst (λ (t : Expanding). Paces (bodies_due c.deref_mut.result.now.expander) t (bodies_due c.resume.new.self)) c.in-Body.is c.in_ok-wants.ensures.costly in
    let same : weigh_word c.deref_mut.result.now ≡ weigh_word c.args.w.value = ap weigh_word c.deref_mut.ensures.value in
    λ m le. c.free.ensures.costly m _ (omega (arith, due, same, c.in_ok-control-in-Body.ensures.weight))

pub returns-in-Done-clause-costly : goal.returns-in-Done-clause-costly
returns-in-Done-clause-costly c =
    let same : weigh_word c.deref_mut.result.now ≡ weigh_word c.args.w.value = ap weigh_word c.deref_mut.ensures.value in
    λ m le. falls_free m _ c.in-Done.cost _ (omega arith)

pub returns-in-Fault-clause-costly : goal.returns-in-Fault-clause-costly
returns-in-Fault-clause-costly c =
    let same : weigh_word c.deref_mut.result.now ≡ weigh_word c.args.w.value = ap weigh_word c.deref_mut.ensures.value in
    λ m le. falls_free m _ c.in-Fault.cost _ (omega arith)
