use Rattle.std.proofs.Common.{◌≡◌, drop}
use Rattle.sh_special.specs.Changes.{declare_all}
use Rattle.sh_special.proofs.changes.declare_all.Given as goal

abbrev pub invariant-declarations : goal.invariant-declarations
invariant-declarations l = declare_all l.readonly (drop l.d-index l.declarations) l.vars ≡ declare_all l.readonly l.declarations l.initial.vars
