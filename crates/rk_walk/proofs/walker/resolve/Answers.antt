use Rattle.std.proofs.Common.{sym, subst}
use Rattle.rk_walk.proofs.PlaceLemmas.{IsSpotOf, path-place}
use Rattle.rk_walk.proofs.walker.resolve.Goals as goal

pub returns-else-has_nul-clause-stands : goal.returns-else-has_nul-clause-stands
returns-else-has_nul-clause-stands c = subst (IsSpotOf c.args.tree.now) (sym c.leads.ensures.place) (path-place c.args.tree.now c.leads.ensures.whole c.args.follow c.args.path.now)
