use Rattle.std.proofs.Common.{◌≡◌, drop}
use Rattle.rk_base.specs.Names.{ascend_from}
use Rattle.rk_base.specs.Variables.{names_of}
use Rattle.rk_base.proofs.variables.ascends_from.Given as goal

abbrev pub invariant-vars : goal.invariant-vars
invariant-vars l = ascend_from l.last (names_of (drop l.var-index l.vars)) ≡ ascend_from l.first (names_of l.vars)
