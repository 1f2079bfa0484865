use Rattle.std.proofs.Common.{refl, subst}
use Rattle.ut_bre.specs.declared.set.One.TheVariants.{Any}
use Rattle.ut_bre.specs.Times.{no_turn}
use Rattle.ut_bre.specs.Trees.{tree_of}
use Rattle.ut_bre.specs.Fitting.{IsFitted}
use Rattle.ut_bre.proofs.Alike.{fitted_nothing}
use Rattle.ut_bre.proofs.fit.fit_part.Goals as goal

pub returns-in-None : goal.returns-in-None
returns-in-None c =
    let x = tree_of c.args.item.now in
    fitted_nothing c.args.room x c.args.times no_turn Any c.nothing.result refl c.nothing.ensures (subst (IsFitted c.args.room x c.args.times) c.in-None.is c.in_ok-fitted.ensures)
