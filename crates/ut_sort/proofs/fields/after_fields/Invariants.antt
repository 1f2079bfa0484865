use Rattle.std.proofs.Common.{◌≡◌, ◌≤◌, length}
use Rattle.ut_sort.specs.Fields.{after_fields}
use Rattle.ut_sort.proofs.fields.after_fields.Given as goal

abbrev pub invariant-fields : goal.invariant-fields
invariant-fields l = (after_fields l.delimiter l.left l.rest ≡ after_fields l.delimiter l.number l.text) × (length l.rest ≤ length l.text)

abbrev pub decreases-fields : goal.decreases-fields
decreases-fields l = l.left
