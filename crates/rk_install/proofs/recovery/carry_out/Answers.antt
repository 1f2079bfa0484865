use Rattle.std.proofs.Common.{◌≡◌, List, true, option_map, sym, subst}
use Rattle.rk_seal.specs.Ops.{are_calls}
use Rattle.rk_seal.specs.declared.ops.Op.{Op}
use Rattle.rk_install.specs.Halfway.{finished}
use Rattle.rk_install.specs.Recovery.{AreBelowRoot}
use Rattle.rk_install.proofs.RecoveryLemmas.{left-then}
use Rattle.rk_install.proofs.SealLemmas.{are-below_root, told-may_unseal}
use Rattle.rk_install.proofs.recovery.carry_out.Goals as goal

pub finish-requires : goal.finish-requires
finish-requires g c = subst AreBelowRoot (sym c.as_slice.ensures.value) (are-below_root c.args.list.now c.as_slice.ensures.calls)

pub unseal-requires : goal.unseal-requires
unseal-requires g c = told-may_unseal _ _ c.as_slice.result.now (subst (λ (l : List Op). are_calls l ≡ true) (sym c.as_slice.ensures.value) c.as_slice.ensures.calls) c.in-Ok.ensures.held c.requires

pub returns-in-Ok-clause-left : goal.returns-in-Ok-clause-left
returns-in-Ok-clause-left g c =
    left-then c.unseal.result c.args.list.now _ (g.F.Folder.told c.finish.new.folder) _ (subst (λ (l : List Op). g.F.Folder.told c.finish.new.folder ≡ option_map (finished l) (g.F.Folder.told c.args.folder.now)) c.as_slice.ensures.value c.in-Ok.ensures.held) c.unseal.ensures.left
