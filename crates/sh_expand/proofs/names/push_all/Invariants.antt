use Rattle.std.proofs.Common.{◌≡◌, ◌++◌, drop}
use Rattle.sh_expand.proofs.names.push_all.Given as goal

abbrev pub invariant-texts : goal.invariant-texts
invariant-texts l = l.done ++ drop l.text-index l.texts ≡ l.initial.done ++ l.texts
