-- Each side of a node has fewer rows than the node.
use Rattle.std.specs.Prelude.{◌≤◌, max, ◌∷◌, length}
use Rattle.std.proofs.Common.{arith, length-append}
use Rattle.sh_vars.specs.declared.tree.Link.{Link}
use Rattle.sh_vars.specs.declared.tree.Link.TheVariants.{Leaf, To}
use Rattle.sh_vars.specs.declared.tree.Tree.TheDeep.{deep-Link}
use Rattle.sh_vars.specs.TreeRows.{rows, row_of}

pub depth_le-length-rows : (link : Link) → max (deep-Link link) 0 ≤ length (rows link)
depth_le-length-rows Leaf = omega arith
depth_le-length-rows (To node) = omega (arith, length-append node.value.left (row_of node.value ∷ node.value.right))
