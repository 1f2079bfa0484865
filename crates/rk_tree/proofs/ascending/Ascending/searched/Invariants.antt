use Rattle.std.proofs.Common.{◌≡◌, drop}
use Rattle.rk_tree.specs.Ascending.{held, stated, map_held}
use Rattle.rk_tree.specs.Names.{named}
use Rattle.rk_tree.specs.Rows.{map_of}
use Rattle.rk_tree.proofs.RowsLemmas.{puts}
use Rattle.rk_tree.proofs.ascending.Ascending.searched.Given as goal

-- what the others hold, put into the map so far, makes the names
abbrev pub invariant-loop-name : goal.invariant-loop-name
invariant-loop-name l = puts (map_of (named l.map.entries)) (held (stated (drop l.name-index l.name-items))) ≡ map_held l.name-items
