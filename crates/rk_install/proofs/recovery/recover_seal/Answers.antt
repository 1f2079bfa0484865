use Rattle.std.proofs.Common.{refl}
use Rattle.rk_install.proofs.RecoveryLemmas.{told-unsealed}
use Rattle.rk_install.proofs.recovery.recover_seal.Goals as goal

pub returns-in-None-clause-told : goal.returns-in-None-clause-told
returns-in-None-clause-told g c = told-unsealed {T = Unit {0}} _ _ c.args.seal tt c.requires c.in-None.is refl
