use Rattle.std.proofs.Common.{◌∙◌, subst, arith}
use Rattle.sh_means.specs.Stack.{context}
use Rattle.sh_means.specs.Views.{shell_of}
use Rattle.sh_words.proofs.Redirected.{redirect_asks, redirect_made, redirect_refused}
use Rattle.sh_redirect.specs.Stages.{IsAsking}
use Rattle.sh_means.proofs.Weighing.{falls_asked}
use Rattle.sh_words.proofs.making.resume_redirection.Goals as goal

pub returns-in-Ask-clause-talk : goal.returns-in-Ask-clause-talk
returns-in-Ask-clause-talk c =
    λ p. redirect_asks c.args.left c.args.place (context c.args.shell.now.stack.items) c.args.r.value c.deref_mut.result.now c.next_turn.new.r c.args.answer (shell_of c.args.shell.now.state) c.next_turn.new.map.value c.in_ok-turn.turn c.deref_mut.ensures.value c.in_ok-turn.ensures.does c.in-Ask.call c.in-Ask.cost p c.in-Ask.is

pub returns-in-Made-clause-talk : goal.returns-in-Made-clause-talk
returns-in-Made-clause-talk c =
    λ p. redirect_made c.args.left c.args.place (context c.args.shell.now.stack.items) c.args.r.value c.deref_mut.result.now c.next_turn.new.r c.args.answer (shell_of c.args.shell.now.state) c.next_turn.new.map.value c.in_ok-turn.turn c.deref_mut.ensures.value c.in_ok-turn.ensures.does p c.in-Made.is ∙ c.free.ensures.talk (context c.args.shell.now.stack.items) _ p

pub returns-in_ok-acted-in-Refused-clause-talk : goal.returns-in_ok-acted-in-Refused-clause-talk
returns-in_ok-acted-in-Refused-clause-talk c =
    λ p. redirect_refused c.args.left c.args.place (context c.args.shell.now.stack.items) c.args.r.value c.deref_mut.result.now c.next_turn.new.r c.args.answer (shell_of c.args.shell.now.state) c.next_turn.new.map.value c.in_ok-turn.turn c.deref_mut.ensures.value c.in_ok-turn.ensures.does p c.in-Refused.is ∙ c.in_ok-acted-in-Refused.ensures.talk p

pub returns-in-Ask-clause-costly : goal.returns-in-Ask-clause-costly
returns-in-Ask-clause-costly c = λ m le. falls_asked m _ c.in-Ask.call c.in-Ask.cost _ (subst IsAsking c.in-Ask.is c.in_ok-turn.ensures.costly)

pub returns-in-Made-clause-costly : goal.returns-in-Made-clause-costly
returns-in-Made-clause-costly c = λ m le. c.free.ensures.costly m _ (omega arith)

pub returns-in_ok-acted-in-Refused-clause-costly : goal.returns-in_ok-acted-in-Refused-clause-costly
returns-in_ok-acted-in-Refused-clause-costly c = λ m le. c.in_ok-acted-in-Refused.ensures.costly m (omega arith)
