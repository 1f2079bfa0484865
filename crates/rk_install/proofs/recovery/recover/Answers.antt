use Rattle.rk_install.proofs.RecoveryLemmas.{told-from, told-untouched}
use Rattle.rk_install.proofs.recovery.recover.Goals as goal

pub returns-in-Ok-clause-told : goal.returns-in-Ok-clause-told
returns-in-Ok-clause-told g c = told-from _ _ _ _ c.in-Ok.ensures.held c.recover_seal.ensures.told

pub returns-in-Err-ReadFault-clause-told : goal.returns-in-Err-ReadFault-clause-told
returns-in-Err-ReadFault-clause-told g c = told-untouched _ _ c.in-Err-ReadFault.ensures.held

pub returns-in-Err-NoMemory-clause-told : goal.returns-in-Err-NoMemory-clause-told
returns-in-Err-NoMemory-clause-told g c = told-untouched _ _ c.in-Err-NoMemory.ensures.held
