use Rattle.std.proofs.Common.{◌<◌, ◌∙◌, arith, subst, ◌≡◌, ◌+◌}
use Rattle.std.proofs.lemmas.Result.{IfOk-weaker}
use Rattle.sh_ast.specs.Commands as tree
use Rattle.sh_ast.specs.declared.command.Word.{Word}
use Rattle.sh_expand.specs.Means.{parts_of}
use Rattle.sh_means.specs.Stack.{context}
use Rattle.sh_means.specs.Views.{shell_of}
use Rattle.sh_means.proofs.Begun.{redirects_over}
use Rattle.sh_means.proofs.Bounds.{redirect_small}
use Rattle.sh_words.specs.Literal.{IsValue}
use Rattle.sh_words.proofs.LiteralLemmas.{operand_taken, operand_expanded}
use Rattle.sh_means.proofs.Weighing.{redirect_less, sinks_lower, lowers_more}
use Rattle.sh_means.specs.Weights.{redirects_left}
use Rattle.sh_words.proofs.making.next_redirect.Goals as goal

pub overflow_add-left : goal.overflow_add-left
overflow_add-left c = let small : c.args.left.at < 9223372036854775808 = redirect_small c.deref.result.now c.args.left.at _ c.in-Some.ensures in omega arith

pub returns-in-Some-value-clause-talk : goal.returns-in-Some-value-clause-talk
returns-in-Some-value-clause-talk c =
    let k = context c.args.shell.now.stack.items in
    IfOk-weaker c.redirect_literal.result _ _
    (λ t told p. operand_taken c.args.left c.args.place k (shell_of c.args.shell.now.state) c.deref.result.now c.in-Some.r.now c.kind_of-kind.result c.in-Some-value.text.now p (c.deref.ensures ∙ c.in_ok-redirects.ensures.cases) c.kind_of-kind.ensures c.in-Some.ensures
    (subst (λ (w : Word). IsValue c.in-Some-value.text.now (parts_of (tree.word w))) c.deref-in-Some.ensures c.in-Some-value.ensures)
    ∙ told k (shell_of c.args.shell.now.state) p)
    c.redirect_literal.ensures.talk

pub returns-in-Some-clause-talk : goal.returns-in-Some-clause-talk
returns-in-Some-clause-talk c =
    let k = context c.args.shell.now.stack.items in
    let e = shell_of c.args.shell.now.state in
    IfOk-weaker c.act_expand.result _ _
    (λ t told p. operand_expanded c.args.left c.args.place k e c.deref.result.now c.in-Some.r.now c.kind_of-kind.result c.in_ok-word-in-Some.word p (c.deref.ensures ∙ c.in_ok-redirects.ensures.cases) c.in_ok-word-in-Some.ensures.cases c.kind_of-kind.ensures c.in-Some.ensures
    ∙ c.in_ok-wording-in-Some.ensures.talk k e p ∙ told p)
    c.act_expand.ensures.talk

pub returns-clause-talk : goal.returns-clause-talk
returns-clause-talk c =
    let e = shell_of c.args.shell.now.state in
    λ p. redirects_over c.args.left c.args.place (context c.args.shell.now.stack.items) e c.deref.result.now p (c.deref.ensures ∙ c.in_ok-redirects.ensures.cases) c.in-None.ensures
    ∙ c.in_ok-control-in-None.ensures.talk p ∙ c.free.ensures.talk (context c.all_made.new.shell.stack.items) (shell_of c.all_made.new.shell.state) p

pub returns-in-Some-value-clause-costly : goal.returns-in-Some-value-clause-costly
returns-in-Some-value-clause-costly c =
    let less : redirects_left c.args.left.redirects.value c.args.left.at ≡ redirects_left c.args.left.redirects.value (c.args.left.at + 1) + 1 = redirect_less c.deref.result.now c.args.left.redirects.value c.args.left.at _ (c.deref.ensures ∙ c.in_ok-redirects.ensures.cases) c.in-Some.ensures in
    sinks_lower c.redirect_literal.result _ _ c.args.shell.now.stack.items c.redirect_literal.ensures.costly (omega (arith, less))

pub returns-in-Some-clause-costly : goal.returns-in-Some-clause-costly
returns-in-Some-clause-costly c =
    let less : redirects_left c.args.left.redirects.value c.args.left.at ≡ redirects_left c.args.left.redirects.value (c.args.left.at + 1) + 1 = redirect_less c.deref.result.now c.args.left.redirects.value c.args.left.at _ (c.deref.ensures ∙ c.in_ok-redirects.ensures.cases) c.in-Some.ensures in
    lowers_more c.act_expand.result _ _ _ _ _ c.act_expand.ensures.costly (omega (arith, less, c.in_ok-wording-in-Some.ensures.weight))

pub returns-clause-costly : goal.returns-clause-costly
returns-clause-costly c = λ m le. c.free.ensures.costly m _ (omega (arith, c.in_ok-control-in-None.ensures.weight))
