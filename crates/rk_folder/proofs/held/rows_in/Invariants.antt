use Rattle.std.proofs.Common.{◌≡◌, ◌++◌}
use Rattle.std.specs.List.{filter_map}
use Rattle.rk_folder.specs.Told.{item_in}
use Rattle.rk_folder.proofs.held.rows_in.Given as goal

abbrev pub invariant-loop-path : goal.invariant-loop-path
invariant-loop-path l = l.items.items ++ filter_map (item_in l.dir) l.path-iterator ≡ filter_map (item_in l.dir) l.rows.entries
