use Rattle.rk_plan.proofs.RetracedLemmas.{retraced-so}
use Rattle.rk_plan.proofs.laws.retraced.Goals as goal

pub returns : goal.returns
returns c = λ first purse key before after status left table e. retraced-so first purse key before after status left table e
