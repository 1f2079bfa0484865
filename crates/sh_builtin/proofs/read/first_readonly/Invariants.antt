use Rattle.std.proofs.Common.{◌≡◌, drop}
use Rattle.sh_vars.specs.Held.{is_readonly}
use Rattle.sh_operands.specs.Words.{first_that}
use Rattle.sh_builtin.proofs.read.first_readonly.Given as goal

abbrev pub invariant-names : goal.invariant-names
invariant-names l = first_that (is_readonly l.vars) (drop l.x-index l.names) ≡ first_that (is_readonly l.vars) l.names
