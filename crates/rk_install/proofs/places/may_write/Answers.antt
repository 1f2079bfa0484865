use Rattle.rk_install.proofs.LookLemmas.{told-may_write}
use Rattle.rk_install.proofs.places.may_write.Goals as goal

pub returns-clause-told : goal.returns-clause-told
returns-clause-told g c = told-may_write _ c.args.path.now c.in_ok-place.place c.may_hold.result c.in_ok-place.ensures.told c.may_hold.ensures
