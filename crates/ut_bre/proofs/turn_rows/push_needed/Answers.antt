use Rattle.std.proofs.Common.{◌≡◌, ℕ, subst, arith}
use Rattle.ut_bre.specs.Picking.{MatchesTurn}
use Rattle.ut_bre.specs.Rows.{AreFound}
use Rattle.ut_bre.specs.Trees.{tree_of}
use Rattle.ut_bre.proofs.RowLemmas.{turns_left, needed-more}
use Rattle.ut_bre.proofs.turn_rows.push_needed.Goals as goal

pub turns-preserved : goal.turns-preserved
turns-preserved c =
    let a = c.args in
    needed-more a.line.now (tree_of a.item.now) a.span.start a.span.end c.turns.counter a.times.beyond a.bottom.now c.turns.rows.items c.push_front.new.self.items c.top.result.now c.in_ok-row.row c.once.result c.turns.invariant c.top.ensures c.once.ensures c.in_ok-row.ensures c.in_ok-push_front.ensures.items

pub returns : goal.returns
returns c =
    let a = c.args in
    let last : c.turns.counter ≡ a.times.least = omega (arith, c.turns-test.false, c.turns.auto.counter-end) in
    subst (λ (n : ℕ). AreFound (MatchesTurn a.line.now (tree_of a.item.now)) a.span.start a.span.end (turns_left n a.times.beyond) a.bottom.now c.turns.rows.items) last c.turns.invariant
