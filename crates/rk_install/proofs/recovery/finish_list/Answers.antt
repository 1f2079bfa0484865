use Rattle.rk_install.proofs.RecoveryLemmas.{told-carried, told-cut}
use Rattle.rk_install.proofs.SealLemmas.{told-seal_stands}
use Rattle.rk_install.proofs.recovery.finish_list.Goals as goal

pub carry_out-requires : goal.carry_out-requires
carry_out-requires g c = told-seal_stands _ c.args.bytes.now c.requires.seal

pub returns-in-Ok-clause-told : goal.returns-in-Ok-clause-told
returns-in-Ok-clause-told g c = told-carried {T = Unit {0}} _ _ c.args.bytes.now c.args.list.now tt c.requires.seal c.requires.calls c.requires.spelt c.in-Ok.ensures.held

pub returns-in-Err-clause-told : goal.returns-in-Err-clause-told
returns-in-Err-clause-told g c = told-cut (Unit {0}) (Unit {0}) _ _ c.args.bytes.now c.args.list.now c.in-Err.e c.requires.seal c.requires.calls c.requires.spelt c.in-Err.ensures.stop c.in-Err.ensures.left
