use Rattle.std.proofs.Common.{◌≡◌, ◌++◌}
use Rattle.std.specs.Prelude.{option_copied}
use Rattle.ut_select.specs.Fields.{fields, fields_left, joined, joined_after}
use Rattle.ut_select.specs.Cuts.{listed}
use Rattle.ut_select.proofs.FieldLemmas.{left_length}
use Rattle.ut_select.proofs.cut.put_fields.Given as goal

abbrev pub invariant-fields : goal.invariant-fields
invariant-fields l =
    l.output.items ++ joined_after l.started l.delimiter (listed l.ranges l.place (fields_left l.delimiter (option_copied l.left))) ≡ l.initial.output.items ++ joined l.delimiter (listed l.ranges 1 (fields l.delimiter l.line))

abbrev pub decreases-fields : goal.decreases-fields
decreases-fields l = left_length (option_copied l.left)
