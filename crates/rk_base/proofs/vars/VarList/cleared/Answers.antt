use Rattle.std.proofs.Common.{ap, List}
use Rattle.rk_base.specs.declared.vars.Var.{Var}
use Rattle.rk_base.specs.Variables.{are_variables}
use Rattle.rk_base.proofs.vars.VarList.cleared.Goals as goal

pub invariant_of-result : goal.invariant_of-result
unfolding are_variables
invariant_of-result c = ap (λ (vars : List Var). are_variables vars) c.clear.ensures.items
