use Rattle.std.proofs.Common.{◌≡◌}
use Rattle.std.specs.FinMap.{empty, entries}
use Rattle.rk_tree.proofs.RowsLemmas.{puts}
use Rattle.rk_folder.proofs.attributes.copy_of.Given as goal

abbrev pub invariant-loop-path : goal.invariant-loop-path
invariant-loop-path l = puts l.copy l.path-iterator ≡ puts empty (entries l.entries)
