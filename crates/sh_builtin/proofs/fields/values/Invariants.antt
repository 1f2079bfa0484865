use Rattle.std.proofs.Common.{◌≡◌, ◌++◌, drop}
use Rattle.sh_builtin.specs.Fields.{values_from, values}
use Rattle.sh_builtin.proofs.fields.values.Given as goal

abbrev pub invariant-names : goal.invariant-names
invariant-names l = l.values ++ values_from l.ifs (drop l.at l.names) l.left ≡ values l.ifs l.names l.ms
