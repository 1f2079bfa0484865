use Rattle.std.proofs.Common.{◌≡◌, drop}
use Rattle.rk_base.specs.Canonical.{is_empty}
use Rattle.ut_filter.specs.Parts.{all_lines}
use Rattle.ut_sed.proofs.sed.are_empty.Given as goal

abbrev pub invariant-inputs : goal.invariant-inputs
invariant-inputs l = is_empty (all_lines (drop l.input-index l.inputs)) ≡ is_empty (all_lines l.inputs)
