use Rattle.std.proofs.Common.{List, ◌∷◌, [], ◌++◌, subst}
use Rattle.sh_vars.specs.Tree.{Row, IsInOrder}
use Rattle.sh_vars.specs.TreeRows.{row_of, rows_of}
use Rattle.sh_vars.proofs.TreeLemmas.{inner_left, inner_right, in_order_back}
use Rattle.sh_vars.proofs.turns.turn_left_twice.Goals as goal

pub fork-requires : goal.fork-requires
fork-requires c =
    let top = c.args.top.now in
    let middle = c.args.middle.now in
    let own : Row = (c.args.name, c.args.variable) in
    let h : IsInOrder (c.args.left ++ own ∷ rows_of middle) = subst (λ (rows : List Row). IsInOrder (c.args.left ++ own ∷ rows)) c.requires.middle (inner_left c.args.left own top.left (row_of top) top.right c.requires.in_order) in
    rw c.in_ok-inner.ensures (inner_left c.args.left own middle.left (row_of middle) middle.right h)

pub fork-requires-2 : goal.fork-requires-2
fork-requires-2 c =
    let top = c.args.top.now in
    let middle = c.args.middle.now in
    let own : Row = (c.args.name, c.args.variable) in
    let h : IsInOrder (rows_of middle ++ row_of top ∷ top.right) = subst (λ (rows : List Row). IsInOrder (rows ++ row_of top ∷ top.right)) c.requires.middle (in_order_back (own ∷ []) (rows_of top) (in_order_back c.args.left (own ∷ rows_of top) c.requires.in_order)) in
    rw (c.in_ok-inner-2.ensures, c.in_ok-right.ensures) (inner_right middle.left (row_of middle) middle.right (row_of top) top.right h)
