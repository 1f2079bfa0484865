use Rattle.std.proofs.Common.{◌≡◌, ◌<◌, ap, subst, sym, ◌∙◌, refl, arith}
use Rattle.rk_base.specs.declared.errno.Errno.TheVariants.{BadRef}
use Rattle.rk_calls.specs.Costly.{IsCostly}
use Rattle.rk_calls.specs.declared.answer.Answer.TheVariants.{No}
use Rattle.rk_calls.specs.declared.turn.Turn.{Turn}
use Rattle.sh_builtin.specs.declared.builtin.Builtin.{Builtin}
use Rattle.sh_builtin.specs.Refused.{HasBegun, IsFewer, refusals_of}
use Rattle.sh_means.specs.Views.{shell_of}
use Rattle.sh_means.proofs.Weighing.{falls_asked, falls_paid, falls_free}
use Rattle.sh_simple.specs.Launching.{through}
use Rattle.sh_simple.proofs.Built.{builtin_asks, builtin_lacks, builtin_pays, builtin_ends, output_of}
use Rattle.sh_simple.proofs.launching.resume_refused.Goals as goal

pub returns-in-Some-clause-talk : goal.returns-in-Some-clause-talk
returns-in-Some-clause-talk c =
    λ k p. c.refused.invariant.talk k p
    ∙ builtin_asks k c.refused.builtin.value c.deref_mut.result.now c.resume.new.self (No BadRef) (shell_of c.refused.state) c.resume.new.env c.in_ok-turn.turn c.deref_mut.ensures.value c.has_output.result c.in_ok-turn.ensures.does (output_of c.has_output.result _ _ c.has_output.ensures c.deref.ensures) c.in-Ask.call c.in-Some.call c.in-Ask.cost c.through.result p c.in-Ask.is (c.through.ensures ∙ ap (through c.in-Ask.call) c.deref-in-Ask.ensures) c.in-Some.is

pub returns-in-Some-clause-costly : goal.returns-in-Some-clause-costly
returns-in-Some-clause-costly c = λ m n h. falls_asked m n c.in-Some.call c.in-Ask.cost _ (subst IsCostly c.in-Ask.is c.in_ok-turn.ensures.costly)

pub returns-in-More-clause-talk : goal.returns-in-More-clause-talk
returns-in-More-clause-talk c =
    λ k p. c.refused.invariant.talk k p ∙ builtin_pays k c.refused.builtin.value c.deref_mut.result.now c.resume.new.self (No BadRef) (shell_of c.refused.state) c.resume.new.env c.in_ok-turn.turn c.deref_mut.ensures.value c.has_output.result c.in_ok-turn.ensures.does (output_of c.has_output.result _ _ c.has_output.ensures c.deref.ensures) c.in-More.cost p c.in-More.is

pub returns-in-More-clause-costly : goal.returns-in-More-clause-costly
returns-in-More-clause-costly c = λ m n h. falls_paid m n c.in-More.cost _ (subst IsCostly c.in-More.is c.in_ok-turn.ensures.costly)

pub returns-in-Exit-clause-talk : goal.returns-in-Exit-clause-talk
returns-in-Exit-clause-talk c =
    λ k p. c.refused.invariant.talk k p ∙ builtin_ends k c.refused.builtin.value c.deref_mut.result.now c.resume.new.self (No BadRef) (shell_of c.refused.state) c.resume.new.env c.in_ok-turn.turn c.deref_mut.ensures.value c.has_output.result c.in_ok-turn.ensures.does (output_of c.has_output.result _ _ c.has_output.ensures c.deref.ensures) c.in-Exit.status c.in-Exit.cost p c.in-Exit.is

pub returns-in-Exit-clause-costly : goal.returns-in-Exit-clause-costly
returns-in-Exit-clause-costly c = λ m n h. falls_free m n c.in-Exit.cost _ (omega arith)

pub refused-preserved : goal.refused-preserved
refused-preserved c =
    record {
      talk = λ k p. c.refused.invariant.talk k p ∙ builtin_lacks k c.refused.builtin.value c.deref_mut.result.now c.resume.new.self (No BadRef) (shell_of c.refused.state) c.resume.new.env c.in_ok-turn.turn c.deref_mut.ensures.value c.has_output.result c.in_ok-turn.ensures.does (output_of c.has_output.result _ _ c.has_output.ensures c.deref.ensures) c.in-Ask.call c.in-Ask.cost c.through.result p c.in-Ask.is (c.through.ensures ∙ ap (through c.in-Ask.call) c.deref-in-Ask.ensures) c.in-None.is;
      begun = c.in_ok-turn.ensures.begun;
    }

pub refused-smaller : goal.refused-smaller
refused-smaller c =
    let same : refusals_of c.deref_mut.result.now ≡ refusals_of c.refused.builtin.value = ap refusals_of c.deref_mut.ensures.value in
    let fewer : refusals_of c.resume.new.self < refusals_of c.deref_mut.result.now = subst (λ (t : Turn). IsFewer (refusals_of c.deref_mut.result.now) t (refusals_of c.resume.new.self)) c.in-Ask.is (c.in_ok-turn.ensures.refused refl (subst HasBegun (sym c.deref_mut.ensures.value) c.refused.invariant.begun)) in
    omega arith
