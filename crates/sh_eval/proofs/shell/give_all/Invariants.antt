use Rattle.std.proofs.Common.{◌≡◌, drop}
use Rattle.sh_means.specs.Starts.{all_given}
use Rattle.sh_eval.specs.Starting.{NoneReadonly}
use Rattle.sh_eval.proofs.shell.give_all.Given as goal

abbrev pub invariant-variables : goal.invariant-variables
invariant-variables l = (all_given (drop l.var-index l.list) l.vars ≡ all_given l.list l.fn.vars) × NoneReadonly l.vars
