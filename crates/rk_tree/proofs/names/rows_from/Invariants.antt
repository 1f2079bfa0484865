use Rattle.std.proofs.Common.{◌≡◌, ◌++◌, true}
use Rattle.std.specs.List.{list_all}
use Rattle.std.specs.FinMap.{entries}
use Rattle.rk_base.specs.Canonical.{is_name}
use Rattle.rk_tree.specs.Names.{named}
use Rattle.rk_tree.specs.Rows.{map_of}
use Rattle.rk_tree.proofs.NamesLemmas.{texts}
use Rattle.rk_tree.proofs.names.rows_from.Given as goal

-- the rows so far and what the iterator has left are all, and what it has left are names
abbrev pub invariant-loop-name : goal.invariant-loop-name
invariant-loop-name l = (l.made.items ++ named l.name-iterator ≡ entries (map_of (named l.rows.entries))) × (list_all is_name (texts l.name-iterator) ≡ true)
