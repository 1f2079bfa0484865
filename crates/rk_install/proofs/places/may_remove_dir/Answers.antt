use Rattle.rk_install.proofs.KnownLemmas.{told-still_known}
use Rattle.rk_install.proofs.LookLemmas.{told-found_dir, told-may_not, told-may_remove_dir}
use Rattle.rk_install.proofs.places.may_remove_dir.Goals as goal

pub returns-then-not-is_dir-clause-told : goal.returns-then-not-is_dir-clause-told
returns-then-not-is_dir-clause-told g c = told-may_not _ c.args.path.now c.in_ok-place.place c.is_dir.result c.in_ok-place.ensures.told c.is_dir.ensures c.if-not-is_dir.true

pub is_bare-requires : goal.is_bare-requires
is_bare-requires g c = told-found_dir _ _ c.args.path.now c.in_ok-place.place c.is_dir.result c.in_ok-place.ensures.held c.in_ok-place.ensures.told c.is_dir.ensures c.if-not-is_dir.false

pub returns-clause-told : goal.returns-clause-told
returns-clause-told g c = told-may_remove_dir _ _ c.args.path.now c.in_ok-place.place c.is_dir.result c.in_ok-bare.bare c.in_ok-place.ensures.held c.requires.below_root c.in_ok-place.ensures.told c.is_dir.ensures c.if-not-is_dir.false c.in_ok-bare.ensures.told

pub returns-clause-known : goal.returns-clause-known
returns-clause-known g c = told-still_known _ _ c.place_at.new.known c.in_ok-bare.ensures.held c.in_ok-place.ensures.known
