use Rattle.std.proofs.Common.{◌≡◌, ◌++◌, drop}
use Rattle.rk_tree.specs.Ascending.{held, stated}
use Rattle.rk_tree.proofs.ascending.Ascending.rows.Given as goal

-- the rows so far and what the others hold are all that is held
abbrev pub invariant-loop-name : goal.invariant-loop-name
invariant-loop-name l = l.rows.items ++ held (stated (drop l.name-index l.name-items)) ≡ held (stated l.name-items)
