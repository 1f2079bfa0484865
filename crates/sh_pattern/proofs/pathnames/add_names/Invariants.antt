use Rattle.std.proofs.Common.{◌≡◌, ◌++◌, drop}
use Rattle.sh_pattern.specs.Pathnames.{matching}
use Rattle.sh_pattern.proofs.pathnames.add_names.Given as goal

abbrev pub invariant-names : goal.invariant-names
invariant-names l = l.done ++ matching l.last l.pattern l.prefix (drop l.name-index l.names) ≡ l.initial.done ++ matching l.last l.pattern l.prefix l.names
