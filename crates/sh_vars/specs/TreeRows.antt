-- What the nodes of the tree are seen as.
use Rattle.std.specs.Prelude.{List, [], ◌∷◌, ◌++◌}
use Rattle.sh_vars.specs.declared.tree.Link.{Link}
use Rattle.sh_vars.specs.declared.tree.Link.TheVariants.{Leaf, To}
use Rattle.sh_vars.specs.declared.tree.Node.{Node}
use Rattle.sh_vars.specs.Tree.{Row}

-- the node's own row
abbrev pub row_of : Node → Row
row_of node = (node.name, node.variable)

-- all rows from the node on, in order
abbrev pub rows_of : Node → List Row
rows_of node = node.left ++ row_of node ∷ node.right

abbrev pub rows : Link → List Row
rows Leaf = []
rows (To node) = rows_of node.value
