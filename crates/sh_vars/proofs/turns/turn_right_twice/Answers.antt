use Rattle.std.proofs.Common.{List, ◌∷◌, ◌++◌, subst}
use Rattle.sh_vars.specs.Tree.{Row, IsInOrder}
use Rattle.sh_vars.specs.TreeRows.{row_of, rows_of}
use Rattle.sh_vars.proofs.TreeLemmas.{inner_left, inner_right, in_order_front}
use Rattle.sh_vars.proofs.turns.turn_right_twice.Goals as goal

pub fork-requires : goal.fork-requires
fork-requires c =
    let top = c.args.top.now in
    let middle = c.args.middle.now in
    let own : Row = (c.args.name, c.args.variable) in
    let h : IsInOrder (top.left ++ row_of top ∷ rows_of middle) = subst (λ (rows : List Row). IsInOrder (top.left ++ row_of top ∷ rows)) c.requires.middle (in_order_front (rows_of top) (own ∷ c.args.right) c.requires.in_order) in
    rw (c.in_ok-left.ensures, c.in_ok-inner.ensures) (inner_left top.left (row_of top) middle.left (row_of middle) middle.right h)

pub fork-requires-2 : goal.fork-requires-2
fork-requires-2 c =
    let top = c.args.top.now in
    let middle = c.args.middle.now in
    let own : Row = (c.args.name, c.args.variable) in
    let h : IsInOrder (rows_of middle ++ own ∷ c.args.right) = subst (λ (rows : List Row). IsInOrder (rows ++ own ∷ c.args.right)) c.requires.middle (inner_right top.left (row_of top) top.right own c.args.right c.requires.in_order) in
    rw c.in_ok-inner-2.ensures (inner_right middle.left (row_of middle) middle.right own c.args.right h)
