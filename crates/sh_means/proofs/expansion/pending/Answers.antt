use Rattle.std.proofs.Common.{sym, ap, ◌∙◌}
use Rattle.rk_calls.specs.declared.answer.Answer.TheVariants.{Go}
use Rattle.sh_means.specs.declared.control.PendingWord.{PendingWord}
use Rattle.sh_means.specs.Stack.{wording}
use Rattle.sh_expand.proofs.Bodies.{one_due}
use Rattle.sh_means.proofs.Delivered.{word_started}
use Rattle.sh_means.proofs.Weighing.{word_begun}
use Rattle.sh_means.proofs.expansion.pending.Goals as goal

pub returns-clause-talk : goal.returns-clause-talk
returns-clause-talk c =
    λ k e p. word_started c.args.mode c.args.word c.deref.result.now c.in_ok-expander.expander c.args.place c.args.aim k e p c.deref.ensures c.in_ok-expander.ensures
    ∙ ap (λ (w : PendingWord). wording w k Go e p) (sym c.in_ok-wording.ensures.ok)

pub returns-clause-weight : goal.returns-clause-weight
returns-clause-weight c = word_begun c.in_ok-wording.wording.value c.in_ok-expander.expander c.args.word c.args.place c.args.aim c.in_ok-wording.ensures.ok (one_due c.in_ok-expander.expander)
