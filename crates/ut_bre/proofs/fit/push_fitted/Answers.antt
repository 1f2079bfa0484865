use Rattle.std.proofs.Common.{sym, ap, ◌∙◌}
use Rattle.ut_bre.specs.Trees.{trees_of}
use Rattle.ut_bre.specs.Fitting.{with_fitted}
use Rattle.ut_bre.proofs.Alike.{items-last}
use Rattle.ut_bre.proofs.fit.push_fitted.Goals as goal

pub returns-in_ok-push-in-Some : goal.returns-in_ok-push-in-Some
returns-in_ok-push-in-Some c =
    ap trees_of c.in_ok-push-in-Some.ensures.items ∙ (items-last c.args.items.now.items c.in-Some.item ∙ ap (with_fitted (trees_of c.args.items.now.items)) (sym c.in-Some.is))
