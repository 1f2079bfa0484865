use Rattle.std.proofs.Common.{◌≡◌, ℕ, drop}
use Rattle.sh_builtin.specs.Action.{Slots, Ended}
use Rattle.sh_builtin.specs.Reads.{assigns}
use Rattle.sh_builtin.proofs.read.assign_all.Given as goal

abbrev pub invariant-names : goal.invariant-names
invariant-names l =
    (slots : Slots) (k : Ended) (p : ℕ) → assigns l.names l.values l.status slots k l.initial.env p ≡ assigns (drop l.at l.names) (drop l.at l.values) l.status slots k l.env p
