use Rattle.std.proofs.Common.{take}
use Rattle.ut_bre.specs.Trees.{trees_of}
use Rattle.ut_bre.specs.Fitting.{AreFitted}
use Rattle.ut_bre.proofs.fit.+fit.Given as goal

abbrev pub invariant-fit_items-items : goal.invariant-fit_items-items
invariant-fit_items-items l = AreFitted l.room (trees_of (take l.item-index l.items)) (trees_of l.fitted.items)
