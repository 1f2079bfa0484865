use Rattle.std.proofs.Common.{rules, ◌≡◌, sym, ap, ◌∙◌}
use Rattle.ut_bre.specs.declared.tree.Item.TheFolds.{the_lemmas}
use Rattle.ut_bre.specs.declared.tree.Item.TheBlock.{One as ItemOne}
use Rattle.ut_bre.specs.Trees.{tree_of, trees_of, one, group}
use Rattle.ut_bre.specs.Times.{takes_none}
use Rattle.ut_bre.specs.Fitting.{turn_size, capped, cut}
use Rattle.ut_bre.proofs.Alike.{fitted_more, fitted_none, fitted_of-one, fitted_of-group}
use Rattle.ut_bre.proofs.fit.+fit.Goals as goal

pub fit_items-items-preserved : goal.fit_items-items-preserved
fit_items-items-preserved t c =
    fitted_more c.args.room c.args.items.now c.items.item-index c.item-item.result c.times.result c.in_ok-more.more (trees_of c.items.fitted.items) _ c.items-test.true c.item-item.is c.times.ensures c.in_ok-more.ensures c.in_ok-push_fitted.ensures c.items.invariant

pub fit_turns-returns-then-takes_none : goal.fit_turns-returns-then-takes_none
fit_turns-returns-then-takes_none t c =
    let x = tree_of c.args.item.now in
    let new : c.cut-times.result ≡ cut (capped (turn_size x)) c.args.room c.args.times = c.cut-times.ensures ∙ ap (λ n. cut n c.args.room c.args.times) c.turn_size.ensures in
    fitted_none c.args.room x c.args.times (ap takes_none (sym new) ∙ (sym c.takes_none.ensures ∙ c.if-takes_none.true))

pub fit_turns-returns-in_ok-one-in-One : goal.fit_turns-returns-in_ok-one-in-One
fit_turns-returns-in_ok-one-in-One t c =
    let x = tree_of c.args.item.now in
    let e : x ≡ one c.in-One.field-0 c.in-One.one = (search (rules, the_lemmas)) in
    let f : tree_of (ItemOne c.cut-times.result c.in_ok-one-in-One.one) ≡ one c.cut-times.result c.in_ok-one-in-One.one = (search (rules, the_lemmas)) in
    fitted_of-one c.args.room c.turn_size.result x c.in-One.field-0 c.args.times c.cut-times.result c.in-One.one (ItemOne c.cut-times.result c.in_ok-one-in-One.one) e c.turn_size.ensures c.cut-times.ensures (f ∙ ap (one c.cut-times.result) c.in_ok-one-in-One.ensures)

pub fit_turns-returns-in_ok-items-in-Group : goal.fit_turns-returns-in_ok-items-in-Group
fit_turns-returns-in_ok-items-in-Group t c =
    let x = tree_of c.args.item.now in
    let e : x ≡ group c.in-Group.field-0 c.in-Group.number (trees_of c.as_slice.result.now) = (search (rules, the_lemmas)) in
    fitted_of-group c.args.room c.turn_size.result x c.in-Group.field-0 c.args.times c.cut-times.result c.in-Group.number (trees_of c.as_slice.result.now) (trees_of c.in_ok-items-in-Group.items.items) c.fit_group.result e c.turn_size.ensures c.cut-times.ensures c.in_ok-items-in-Group.ensures c.fit_group.ensures
