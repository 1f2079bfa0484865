use Rattle.std.proofs.Common.{◌≡◌}
use Rattle.std.specs.declared.cmp.Ordering.TheVariants.{Less, Equal, Greater}
use Rattle.rk_base.specs.Text.{text_cmp}
use Rattle.sh_vars.specs.TreeRows.{row_of}
use Rattle.sh_vars.proofs.TreeLemmas.{at_node, find_left, find_here, find_right}
use Rattle.sh_vars.proofs.tree.Tree.+get.Goals as goal

pub returns-in-Less : goal.returns-in-Less
returns-in-Less t c =
    let node = c.in-To.node.value in
    let f = at_node c.self.view_is c.self.invariant c.in-To.is in
    let side : text_cmp c.args.name.now node.name ≡ Less = cc in
    cc (find_left c.args.name.now node.left (row_of node) node.right side f.in_order, f.is)

pub returns-in-Equal : goal.returns-in-Equal
returns-in-Equal t c =
    let node = c.in-To.node.value in
    let f = at_node c.self.view_is c.self.invariant c.in-To.is in
    let side : text_cmp c.args.name.now node.name ≡ Equal = cc in
    cc (find_here c.args.name.now node.left (row_of node) node.right side f.in_order, f.is)

pub returns-in-Greater : goal.returns-in-Greater
returns-in-Greater t c =
    let node = c.in-To.node.value in
    let f = at_node c.self.view_is c.self.invariant c.in-To.is in
    let side : text_cmp c.args.name.now node.name ≡ Greater = cc in
    cc (find_right c.args.name.now node.left (row_of node) node.right side f.in_order, f.is)
