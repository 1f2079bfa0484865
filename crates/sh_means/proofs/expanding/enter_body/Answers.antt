use Rattle.std.proofs.Common.{ℕ, Some, sym, ap, ◌∙◌, arith}
use Rattle.rk_calls.specs.declared.answer.Answer.TheVariants.{Go}
use Rattle.sh_ast.specs.Commands as tree
use Rattle.sh_ast.specs.declared.command.Word.{Word}
use Rattle.sh_means.specs.declared.control.Control.TheVariants.{Whole}
use Rattle.sh_means.specs.declared.control.PendingWord.{PendingWord}
use Rattle.sh_means.specs.Eval.{word_in}
use Rattle.sh_means.specs.Run.{run}
use Rattle.sh_means.specs.Stack.{context, resumed}
use Rattle.sh_means.specs.State.{Shell, with_slot}
use Rattle.sh_means.specs.Words.{body_at}
use Rattle.sh_means.specs.Views.{shell_of}
use Rattle.sh_means.proofs.Substituted.{sub_entered}
use Rattle.sh_means.proofs.expanding.enter_body.Goals as goal

pub returns-clause-talk : goal.returns-clause-talk
returns-clause-talk c =
    let e = shell_of c.args.shell.now.state in
    let k = context c.put_undo.new.stack.items in
    λ p. sub_entered c.args.w c.args.number c.in_ok-body.body c.in_ok-saved.saved e (context c.args.shell.now.stack.items) k p (ap (λ (w : Word). body_at (word_in run (tree.word w)).bodies c.args.number) (sym (c.deref-2.ensures ∙ ap (λ (w : PendingWord). w.word.value) c.deref.ensures)) ∙ c.in_ok-body.ensures) c.in_ok-saved.ensures c.in_ok-put_undo.ensures.talk
    ∙ ap (λ (x : Shell). resumed (Whole c.args.w.value.place c.in_ok-body.body) k Go x p) (sym (c.in_ok-set_descriptor.ensures ∙ ap (λ (n : ℕ). with_slot 1 (Some n) e) c.saturating_sub-write_end.ensures))
    ∙ ap (λ (w : PendingWord). resumed (Whole w.place c.in_ok-body.body) k Go (shell_of c.set_descriptor.new.self) p) (sym c.deref-3.ensures)

pub returns-clause-weight : goal.returns-clause-weight
returns-clause-weight c = omega (arith, c.in_ok-put_undo.ensures.weight)
