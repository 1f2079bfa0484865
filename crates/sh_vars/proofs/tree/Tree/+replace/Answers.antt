use Rattle.std.proofs.Common.{◌≡◌, refl, sym, subst}
use Rattle.sh_vars.specs.Tree.{IsInOrder}
use Rattle.sh_vars.proofs.TreeLemmas.{at_node, put_at, some_is, replaced_left, replaced_right, in_order_replaced}
use Rattle.sh_vars.proofs.tree.Tree.+replace.Goals as goal
use Rattle.sh_vars.proofs.tree.Tree.+replace.Goals.{in-Leaf, in-To+in-None, in-To+in-Some+in-Less, in-To+in-Some+in-Equal, in-To+in-Some+in-Greater}

pub returns : goal.returns
returns t c =
    elim c.match-self.branch [
      | in-Leaf w ↦ rw (w.result-is, w.self-inside-is) (refl, c.self.view_is)
      | in-To+in-None w ↦ let f = at_node c.self.view_is c.self.invariant w.in-To.is in rw (w.result-is, w.self-inside-is) (refl, sym f.is)
      | in-To+in-Some+in-Less w ↦
          let f = at_node c.self.view_is c.self.invariant w.in-To.is in
          let at = some_is (λ x. x.now ≡ w.in-To.node.value) w.in-Some.is w.get_mut.ensures.value in
          rw (w.result-is, w.self-inside-is) (replaced_left c.args.name.now c.args.variable c.args.self.now w.in-To.node.value w.in-Some.node.now w.side_of.result w.replace.result w.replace.new.self f at w.side_of.ensures w.in-Less.is w.replace.ensures)
      | in-To+in-Some+in-Equal w ↦
          let f = at_node c.self.view_is c.self.invariant w.in-To.is in
          let at = some_is (λ x. x.now ≡ w.in-To.node.value) w.in-Some.is w.get_mut.ensures.value in
          rw (w.result-is, w.self-inside-is) (put_at c.args.name.now c.args.variable c.args.self.now w.in-To.node.value w.in-Some.node.now w.in-Some.node.now w.side_of.result f at w.side_of.ensures w.in-Equal.is at)
      | in-To+in-Some+in-Greater w ↦
          let f = at_node c.self.view_is c.self.invariant w.in-To.is in
          let at = some_is (λ x. x.now ≡ w.in-To.node.value) w.in-Some.is w.get_mut.ensures.value in
          rw (w.result-is, w.self-inside-is) (replaced_right c.args.name.now c.args.variable c.args.self.now w.in-To.node.value w.in-Some.node.now w.side_of.result w.replace-in-Greater.result w.replace-in-Greater.new.self f at w.side_of.ensures w.in-Greater.is w.replace-in-Greater.ensures)
    ]

pub invariant_of-self : goal.invariant_of-self
invariant_of-self t c = in_order_replaced c.args.name.now c.args.variable c.args.self.now c.match-self.result _ (subst IsInOrder c.self.view_is c.self.invariant) (returns t c)
