use Rattle.std.proofs.Common.{◌≡◌, ℕ, length}
use Rattle.sh_expand.specs.Fields.{With_fields}
use Rattle.sh_expand.specs.Turns.{fields_left, all_left}
use Rattle.sh_expand.proofs.expander.run.Given as goal

abbrev pub invariant-fields : goal.invariant-fields
invariant-fields l = (k : With_fields) (p : ℕ) → all_left l.initial.names k l.env p ≡ all_left l.names k l.env p

abbrev pub decreases-fields : goal.decreases-fields
decreases-fields l = length (fields_left l.names)
