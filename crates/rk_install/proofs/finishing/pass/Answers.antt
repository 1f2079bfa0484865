use Rattle.rk_install.proofs.StepLemmas.{allowed-now, damage-none}
use Rattle.rk_install.proofs.finishing.pass.Goals as goal

pub make_where-requires-clause-allowed : goal.make_where-requires-clause-allowed
make_where-requires-clause-allowed g c = allowed-now _ _ c.args.op.now c.in-Ok.is_allowed c.in-Ok.ensures.held c.in-Ok.ensures.told

pub returns-in-Err-ReadFault-clause-left : goal.returns-in-Err-ReadFault-clause-left
returns-in-Err-ReadFault-clause-left g c = damage-none c.args.op.now _ _ c.in-Err-ReadFault.ensures.held

pub returns-in-Err-NoMemory-clause-left : goal.returns-in-Err-NoMemory-clause-left
returns-in-Err-NoMemory-clause-left g c = damage-none c.args.op.now _ _ c.in-Err-NoMemory.ensures.held
