use Rattle.rk_install.proofs.LookLemmas.{told-is_dir}
use Rattle.rk_install.proofs.places.enter.Goals as goal

pub returns-then-not-is_dir-clause-told : goal.returns-then-not-is_dir-clause-told
returns-then-not-is_dir-clause-told g c = told-is_dir _ c.args.dir.now c.args.name.now c.in_ok-place.place c.is_dir.result _ c.in_ok-place.ensures.told c.is_dir.ensures c.if-not-is_dir.true

pub returns-clause-told : goal.returns-clause-told
returns-clause-told g c = told-is_dir _ c.args.dir.now c.args.name.now c.in_ok-place.place c.is_dir.result _ c.in_ok-place.ensures.told c.is_dir.ensures c.if-not-is_dir.false
