use Rattle.std.proofs.Common.{sym, subst}
use Rattle.rk_walk.proofs.PlaceLemmas.{IsSpotOf, path-place}
use Rattle.rk_walk.proofs.walker.resolve_seeing.Goals as goal

pub returns-in_ok-way-in-len1-up-clause-stands : goal.returns-in_ok-way-in-len1-up-clause-stands
returns-in_ok-way-in-len1-up-clause-stands c =
    subst (IsSpotOf c.args.tree.now) (sym c.in_ok-way-in-len1-up.ensures.place)
    (path-place c.args.tree.now c.in_ok-way-in-len1-up.ensures.whole c.args.follow c.args.path.now)
