use Rattle.rk_install.proofs.LookLemmas.{told-may_remove}
use Rattle.rk_install.proofs.places.may_remove_file.Goals as goal

pub returns-clause-told : goal.returns-clause-told
returns-clause-told g c = told-may_remove _ c.args.path.now c.in_ok-place.place c.is_file.result c.in_ok-place.ensures.told c.is_file.ensures
