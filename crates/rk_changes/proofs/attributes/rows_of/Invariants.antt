use Rattle.std.proofs.Common.{◌≡◌, ◌++◌}
use Rattle.std.specs.List.{filter_map}
use Rattle.std.specs.FinMap.{entries}
use Rattle.rk_changes.specs.Attributes.{attr_row}
use Rattle.rk_changes.proofs.attributes.rows_of.Given as goal

abbrev pub invariant-loop-path : goal.invariant-loop-path
invariant-loop-path l = l.rows.items ++ filter_map attr_row l.path-iterator ≡ filter_map attr_row (entries l.snapshot)
