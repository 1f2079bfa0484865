use Rattle.rk_install.proofs.StepLemmas.{may-unseal}
use Rattle.rk_install.proofs.recovery.unseal.Goals as goal

pub make-requires : goal.make-requires
make-requires g c = may-unseal _ c.in_ok-path.path c.in_ok-path.ensures c.requires
