use Rattle.std.proofs.Common.{◌<◌, ◌∙◌, arith, subst, ◌≡◌, ◌+◌}
use Rattle.std.proofs.lemmas.Result.{IfOk-weaker}
use Rattle.sh_ast.specs.Commands as tree
use Rattle.sh_ast.specs.declared.command.Word.{Word}
use Rattle.sh_expand.specs.Means.{parts_of}
use Rattle.sh_means.specs.Stack.{context}
use Rattle.sh_means.specs.Views.{shell_of}
use Rattle.sh_means.proofs.Begun.{words_over}
use Rattle.sh_means.proofs.Bounds.{word_small}
use Rattle.sh_words.specs.Literal.{IsField}
use Rattle.sh_words.proofs.LiteralLemmas.{field_taken, word_expanded}
use Rattle.sh_means.proofs.Weighing.{word_less, sinks_lower, lowers_more}
use Rattle.sh_means.specs.Weights.{words_left}
use Rattle.sh_words.proofs.words.next_word.Goals as goal

pub overflow_add-left : goal.overflow_add-left
overflow_add-left c = let small : c.args.left.at < 9223372036854775808 = word_small c.deref.result.now c.args.left.at _ c.in-Some.ensures in omega arith

pub returns-in-Some-field-clause-talk : goal.returns-in-Some-field-clause-talk
returns-in-Some-field-clause-talk c =
    let k = context c.args.shell.now.stack.items in
    let e = shell_of c.args.shell.now.state in
    IfOk-weaker c.push_field.result _ _
    (λ t told p. field_taken c.args.left c.args.place k e c.deref.result.now c.in-Some.word.now.value c.in-Some-field.text.now p (c.deref.ensures ∙ c.in_ok-words.ensures.cases) c.in-Some.ensures
    (subst (λ (w : Word). IsField c.in-Some-field.text.now (parts_of (tree.word w))) c.deref-in-Some.ensures c.in-Some-field.ensures)
    ∙ told k e p)
    c.push_field.ensures.talk

pub returns-in_ok-wording-in-Some-clause-talk : goal.returns-in_ok-wording-in-Some-clause-talk
returns-in_ok-wording-in-Some-clause-talk c =
    let k = context c.args.shell.now.stack.items in
    let e = shell_of c.args.shell.now.state in
    IfOk-weaker c.act_expand.result _ _
    (λ t told p. word_expanded c.args.left c.args.place k e c.deref.result.now c.in-Some.word.now.value c.in_ok-word-in-Some.word p (c.deref.ensures ∙ c.in_ok-words.ensures.cases) c.in_ok-word-in-Some.ensures.cases c.in-Some.ensures
    ∙ c.in_ok-wording-in-Some.ensures.talk k e p ∙ told p)
    c.act_expand.ensures.talk

pub returns-in-None-clause-talk : goal.returns-in-None-clause-talk
returns-in-None-clause-talk c =
    let k = context c.args.shell.now.stack.items in
    IfOk-weaker c.then.result _ _
    (λ t told p. words_over c.args.left c.args.place k (shell_of c.args.shell.now.state) c.deref.result.now p (c.deref.ensures ∙ c.in_ok-words.ensures.cases) c.in-None.ensures ∙ told p)
    c.then.ensures.talk

pub returns-in-Some-field-clause-costly : goal.returns-in-Some-field-clause-costly
returns-in-Some-field-clause-costly c =
    let less : words_left c.args.left.words.value c.args.left.at ≡ words_left c.args.left.words.value (c.args.left.at + 1) + 1 = word_less c.deref.result.now c.args.left.words.value c.args.left.at _ (c.deref.ensures ∙ c.in_ok-words.ensures.cases) c.in-Some.ensures in
    sinks_lower c.push_field.result _ _ c.args.shell.now.stack.items c.push_field.ensures.costly (omega (arith, less))

pub returns-in_ok-wording-in-Some-clause-costly : goal.returns-in_ok-wording-in-Some-clause-costly
returns-in_ok-wording-in-Some-clause-costly c =
    let less : words_left c.args.left.words.value c.args.left.at ≡ words_left c.args.left.words.value (c.args.left.at + 1) + 1 = word_less c.deref.result.now c.args.left.words.value c.args.left.at _ (c.deref.ensures ∙ c.in_ok-words.ensures.cases) c.in-Some.ensures in
    lowers_more c.act_expand.result _ _ _ _ _ c.act_expand.ensures.costly (omega (arith, less, c.in_ok-wording-in-Some.ensures.weight))

pub returns-in-None-clause-costly : goal.returns-in-None-clause-costly
returns-in-None-clause-costly c = lowers_more c.then.result _ _ _ _ _ c.then.ensures.costly (omega arith)
