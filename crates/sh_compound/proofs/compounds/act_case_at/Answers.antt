use Rattle.std.proofs.Common.{◌<◌, ◌∙◌, arith, ◌≤◌, ◌+◌}
use Rattle.sh_means.specs.Views.{shell_of}
use Rattle.sh_means.proofs.Bounds.{case_item_small, word_small}
use Rattle.sh_means.proofs.Cases.{items_over, patterns_over, pattern_begun}
use Rattle.sh_means.specs.Weights.{items_left}
use Rattle.sh_means.proofs.Weighing.{item_less, pattern_less}
use Rattle.sh_compound.proofs.compounds.act_case_at.Goals as goal

pub overflow_add-left : goal.overflow_add-left
overflow_add-left c = let small : c.args.left.at < 9223372036854775808 = case_item_small c.deref.result.now c.args.left.at _ c.in-Some.ensures in omega arith

pub overflow_add-left-in-Some-get : goal.overflow_add-left-in-Some-get
overflow_add-left-in-Some-get c = let small : c.args.left.pattern < 9223372036854775808 = word_small c.deref-in-Some.result.now c.args.left.pattern _ c.in-Some-get.ensures in omega arith

pub returns-in-None-clause-talk : goal.returns-in-None-clause-talk
returns-in-None-clause-talk c =
    λ k p. items_over c.args.left c.deref.result.now c.args.place k (shell_of c.args.state.now) p (c.deref.ensures ∙ c.in_ok-items.ensures.cases) c.in-None.ensures ∙ c.end.ensures.talk k p

pub returns-in-None-get-clause-talk : goal.returns-in-None-get-clause-talk
returns-in-None-get-clause-talk c =
    let e = shell_of c.args.state.now in
    λ k p. patterns_over c.args.left c.deref.result.now c.in-Some.item.now c.deref-in-Some.result.now c.args.place k e p (c.deref.ensures ∙ c.in_ok-items.ensures.cases) c.in-Some.ensures c.deref-in-Some.ensures c.in-None-get.ensures
    ∙ c.free.ensures.talk k e p

pub returns-clause-talk : goal.returns-clause-talk
returns-clause-talk c =
    let e = shell_of c.args.state.now in
    λ k p. pattern_begun c.args.left c.deref.result.now c.in-Some.item.now c.deref-in-Some.result.now c.in-Some-get.word.now.value c.in_ok-word-in-Some-get.word c.in_ok-control-in-Some-get.control c.args.place k e p (c.deref.ensures ∙ c.in_ok-items.ensures.cases) c.in-Some.ensures c.deref-in-Some.ensures c.in-Some-get.ensures c.in_ok-word-in-Some-get.ensures.cases c.in_ok-control-in-Some-get.ensures.talk
    ∙ c.free-in-Some-get.ensures.talk k e p

pub returns-in-None-get-clause-costly : goal.returns-in-None-get-clause-costly
returns-in-None-get-clause-costly c =
    let less : items_left c.args.left.items.value (c.args.left.at + 1) 0 < items_left c.args.left.items.value c.args.left.at c.args.left.pattern = item_less c.deref.result.now c.args.left.items.value c.args.left.at (c.args.left.at + 1) c.args.left.pattern _ (omega arith) (c.deref.ensures ∙ c.in_ok-items.ensures.cases) c.in-Some.ensures in
    λ m n le. c.free.ensures.costly m n (omega arith)

pub returns-clause-costly : goal.returns-clause-costly
returns-clause-costly c =
    let less : items_left c.args.left.items.value c.args.left.at (c.args.left.pattern + 1) + 10 ≤ items_left c.args.left.items.value c.args.left.at c.args.left.pattern = pattern_less c.deref.result.now c.args.left.items.value c.args.left.at c.args.left.pattern c.in-Some.item.now c.deref-in-Some.result.now _ (c.deref.ensures ∙ c.in_ok-items.ensures.cases) c.in-Some.ensures c.deref-in-Some.ensures c.in-Some-get.ensures in
    λ m n le. c.free-in-Some-get.ensures.costly m n (omega (arith, c.in_ok-control-in-Some-get.ensures.weight))

pub returns-in-None-clause-costly : goal.returns-in-None-clause-costly
returns-in-None-clause-costly c = λ m n le. c.end.ensures.costly m n (omega arith)
