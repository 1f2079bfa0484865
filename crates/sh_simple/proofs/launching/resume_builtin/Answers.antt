use Rattle.std.proofs.Common.{ap, ◌∙◌, subst, arith}
use Rattle.sh_means.specs.Views.{shell_of}
use Rattle.sh_simple.specs.Launching.{through}
use Rattle.sh_simple.proofs.Built.{builtin_asks, builtin_lacks, builtin_pays, builtin_ends, output_of}
use Rattle.rk_calls.specs.Costly.{IsCostly}
use Rattle.sh_means.proofs.Weighing.{falls_asked, falls_paid, falls_free}
use Rattle.sh_simple.proofs.launching.resume_builtin.Goals as goal

pub returns-in-Some-clause-talk : goal.returns-in-Some-clause-talk
returns-in-Some-clause-talk c =
    λ k p. builtin_asks k c.args.builtin.value c.deref_mut.result.now c.resume.new.self c.args.answer (shell_of c.args.state.now) c.resume.new.env c.in_ok-turn.turn c.deref_mut.ensures.value c.has_output.result c.in_ok-turn.ensures.does (output_of c.has_output.result _ _ c.has_output.ensures c.deref.ensures) c.in-Ask.call c.in-Some.call c.in-Ask.cost c.through.result p c.in-Ask.is (c.through.ensures ∙ ap (through c.in-Ask.call) c.deref-in-Ask.ensures) c.in-Some.is

pub returns-in_ok-acted-in-None-clause-talk : goal.returns-in_ok-acted-in-None-clause-talk
returns-in_ok-acted-in-None-clause-talk c =
    λ k p. builtin_lacks k c.args.builtin.value c.deref_mut.result.now c.resume.new.self c.args.answer (shell_of c.args.state.now) c.resume.new.env c.in_ok-turn.turn c.deref_mut.ensures.value c.has_output.result c.in_ok-turn.ensures.does (output_of c.has_output.result _ _ c.has_output.ensures c.deref.ensures) c.in-Ask.call c.in-Ask.cost c.through.result p c.in-Ask.is (c.through.ensures ∙ ap (through c.in-Ask.call) c.deref-in-Ask.ensures) c.in-None.is
    ∙ c.in_ok-acted-in-None.ensures.talk k p

pub returns-in-More-clause-talk : goal.returns-in-More-clause-talk
returns-in-More-clause-talk c =
    λ k p. builtin_pays k c.args.builtin.value c.deref_mut.result.now c.resume.new.self c.args.answer (shell_of c.args.state.now) c.resume.new.env c.in_ok-turn.turn c.deref_mut.ensures.value c.has_output.result c.in_ok-turn.ensures.does (output_of c.has_output.result _ _ c.has_output.ensures c.deref.ensures) c.in-More.cost p c.in-More.is

pub returns-in-Exit-clause-talk : goal.returns-in-Exit-clause-talk
returns-in-Exit-clause-talk c =
    λ k p. builtin_ends k c.args.builtin.value c.deref_mut.result.now c.resume.new.self c.args.answer (shell_of c.args.state.now) c.resume.new.env c.in_ok-turn.turn c.deref_mut.ensures.value c.has_output.result c.in_ok-turn.ensures.does (output_of c.has_output.result _ _ c.has_output.ensures c.deref.ensures) c.in-Exit.status c.in-Exit.cost p c.in-Exit.is

pub resume_refused-requires : goal.resume_refused-requires
resume_refused-requires c = c.in_ok-turn.ensures.begun

pub returns-in-Some-clause-costly : goal.returns-in-Some-clause-costly
returns-in-Some-clause-costly c = λ m n h. falls_asked m n c.in-Some.call c.in-Ask.cost _ (subst IsCostly c.in-Ask.is c.in_ok-turn.ensures.costly)

pub returns-in-More-clause-costly : goal.returns-in-More-clause-costly
returns-in-More-clause-costly c = λ m n h. falls_paid m n c.in-More.cost _ (subst IsCostly c.in-More.is c.in_ok-turn.ensures.costly)

pub returns-in-Exit-clause-costly : goal.returns-in-Exit-clause-costly
returns-in-Exit-clause-costly c = λ m n h. falls_free m n c.in-Exit.cost _ (omega arith)
