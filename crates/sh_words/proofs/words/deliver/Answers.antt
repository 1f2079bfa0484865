use Rattle.std.proofs.Common.{sym, ap, ◌∙◌, arith}
use Rattle.sh_means.specs.declared.control.PendingWord.{PendingWord}
use Rattle.sh_means.specs.Stack.{aimed, context}
use Rattle.sh_means.specs.Views.{shell_of}
use Rattle.sh_means.specs.Weights.{weigh_aim}
use Rattle.sh_words.proofs.words.deliver.Goals as goal

pub returns-clause-talk : goal.returns-clause-talk
returns-clause-talk c =
    λ p. ap (λ (w : PendingWord). aimed w.aim w.place (context c.args.shell.now.stack.items) c.args.expanded (shell_of c.args.shell.now.state) p) (sym c.into_inner-expanded_word.ensures) ∙ c.in_ok-acted.ensures.talk p

pub returns-clause-costly : goal.returns-clause-costly
returns-clause-costly c = λ m le. c.in_ok-acted.ensures.costly m (omega (arith, ap (λ (w : PendingWord). weigh_aim w.aim) c.into_inner-expanded_word.ensures))
