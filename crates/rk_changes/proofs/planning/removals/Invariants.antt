use Rattle.std.proofs.Common.{◌≡◌, ◌++◌}
use Rattle.std.specs.List.{filter_map}
use Rattle.std.specs.FinMap.{entries}
use Rattle.rk_changes.specs.Planned.{removal_of}
use Rattle.rk_changes.proofs.planning.removals.Given as goal

abbrev pub invariant-loop-path : goal.invariant-loop-path
invariant-loop-path l = (l.cursor ≡ l.after) × (l.ops.items ++ filter_map (removal_of l.after) l.path-iterator ≡ filter_map (removal_of l.after) (entries l.before))
