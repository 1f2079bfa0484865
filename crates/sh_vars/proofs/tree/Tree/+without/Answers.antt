use Rattle.std.proofs.Common.{◌≡◌, List, subst, sym, IfOk}
use Rattle.sh_vars.specs.Tree.{Row, IsInOrder}
use Rattle.sh_vars.proofs.TreeLemmas.{at_node, taken_at_left, taken_at, taken_at_right, in_order_sides, in_order_taken}
use Rattle.sh_vars.proofs.tree.Tree.+without.Goals as goal

pub with_left-requires : goal.with_left-requires
with_left-requires t c = subst IsInOrder (sym (taken_at_left c.args.name.now c.args.self.now c.in-To.node.value _ _ _ c.in_ok-left-in-Less.left _ (at_node c.self.view_is c.self.invariant c.in-To.is) c.deref.ensures c.side_of.ensures c.in-Less.is c.deref-in-Less.ensures c.in_ok-left-in-Less.ensures c.deref-in-Less-2.ensures)) (in_order_taken c.args.name.now c.args.self.now (at_node c.self.view_is c.self.invariant c.in-To.is).whole)

pub returns-in_ok-left-in-Less : goal.returns-in_ok-left-in-Less
returns-in_ok-left-in-Less t c = subst (λ (rows : List Row). IfOk c.with_left.result (λ t'. t' ≡ rows)) (taken_at_left c.args.name.now c.args.self.now c.in-To.node.value _ _ _ c.in_ok-left-in-Less.left _ (at_node c.self.view_is c.self.invariant c.in-To.is) c.deref.ensures c.side_of.ensures c.in-Less.is c.deref-in-Less.ensures c.in_ok-left-in-Less.ensures c.deref-in-Less-2.ensures) c.with_left.ensures

pub with_right-requires : goal.with_right-requires
with_right-requires t c = subst IsInOrder (sym (taken_at_right c.args.name.now c.args.self.now c.in-To.node.value _ _ _ c.in_ok-right-in-Greater.right _ (at_node c.self.view_is c.self.invariant c.in-To.is) c.deref.ensures c.side_of.ensures c.in-Greater.is c.deref-in-Greater.ensures c.in_ok-right-in-Greater.ensures c.deref-in-Greater-2.ensures)) (in_order_taken c.args.name.now c.args.self.now (at_node c.self.view_is c.self.invariant c.in-To.is).whole)

pub returns-in_ok-right-in-Greater : goal.returns-in_ok-right-in-Greater
returns-in_ok-right-in-Greater t c = subst (λ (rows : List Row). IfOk c.with_right.result (λ t'. t' ≡ rows)) (taken_at_right c.args.name.now c.args.self.now c.in-To.node.value _ _ _ c.in_ok-right-in-Greater.right _ (at_node c.self.view_is c.self.invariant c.in-To.is) c.deref.ensures c.side_of.ensures c.in-Greater.is c.deref-in-Greater.ensures c.in_ok-right-in-Greater.ensures c.deref-in-Greater-2.ensures) c.with_right.ensures

pub joined-requires : goal.joined-requires
joined-requires t c = in_order_sides c.args.self.now c.in-To.node.value _ _ (at_node c.self.view_is c.self.invariant c.in-To.is) c.deref-in-Equal.ensures c.deref-in-Equal-2.ensures

pub returns-in-Equal : goal.returns-in-Equal
returns-in-Equal t c = subst (λ (rows : List Row). IfOk c.joined.result (λ t'. t' ≡ rows)) (taken_at c.args.name.now c.args.self.now c.in-To.node.value _ _ _ _ (at_node c.self.view_is c.self.invariant c.in-To.is) c.deref.ensures c.side_of.ensures c.in-Equal.is c.deref-in-Equal.ensures c.deref-in-Equal-2.ensures) c.joined.ensures
