use Rattle.std.proofs.Common.{◌≡◌, drop}
use Rattle.sh_special.specs.Changes.{unset_all}
use Rattle.sh_special.proofs.changes.unset_all.Given as goal

abbrev pub invariant-names : goal.invariant-names
invariant-names l = unset_all (drop l.x-index l.names) l.vars ≡ unset_all l.names l.initial.vars
