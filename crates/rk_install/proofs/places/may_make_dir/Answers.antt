use Rattle.rk_install.proofs.LookLemmas.{told-may_make}
use Rattle.rk_install.proofs.places.may_make_dir.Goals as goal

pub returns-clause-told : goal.returns-clause-told
returns-clause-told g c = told-may_make _ c.args.path.now c.in_ok-place.place c.is_free.result c.in_ok-place.ensures.told c.is_free.ensures
