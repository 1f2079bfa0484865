use Rattle.std.proofs.Common.{◌≡◌, sym, ap, ◌∙◌, subst}
use Rattle.std.proofs.lemmas.List.{nil_from_length}
use Rattle.ut_bre.specs.Trees.{ItemTree, no_items, item_and, tree_of, trees_of, times_of}
use Rattle.ut_bre.specs.Fitting.{IsJoined}
use Rattle.ut_bre.proofs.Alike.{fitted_empty, fitted_joined, last-only}
use Rattle.ut_bre.proofs.fit.fit_group.Goals as goal

pub returns-then-as_slice-eq0 : goal.returns-then-as_slice-eq0
returns-then-as_slice-eq0 c =
    let none = nil_from_length c.as_slice.result.now c.if-as_slice-eq0.true in
    fitted_empty c.args.room c.args.times c.args.number (trees_of c.args.body.items) (ap trees_of (sym c.as_slice.ensures.value ∙ none))

pub returns : goal.returns
returns c =
    let items = c.args.body.items in
    let joined = c.in-Some.ensures in
    let only = c.in-Some-pop.only in
    let here : trees_of items ≡ item_and joined.only no_items = ap trees_of (sym c.as_slice-2.ensures.value) ∙ joined.is_only in
    let last : tree_of only ≡ joined.only = last-only _ only joined.only (ap trees_of (sym c.in-Some-pop.ensures.items) ∙ here) in
    let it = subst (λ (x : ItemTree). IsJoined (times_of x) c.args.times c.in-Some.joined) (sym last) joined.joined in
    fitted_joined c.args.room c.args.times c.in-Some.joined c.args.number (trees_of items) (tree_of only) c.cut_item.result (here ∙ ap (λ x. item_and x no_items) (sym last)) it c.cut_item.ensures
