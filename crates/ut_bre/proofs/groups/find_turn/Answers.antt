use Rattle.std.proofs.Common.{◌≡◌, sym, ap, ◌∙◌, subst, arith}
use Rattle.ut_bre.specs.declared.tree.Times.{Times}
use Rattle.ut_bre.specs.Trees.{trees_of}
use Rattle.ut_bre.specs.Times.{star, takes_none}
use Rattle.ut_bre.specs.Matching.{MatchesItems, Repeated}
use Rattle.ut_bre.specs.Picking.{IsNextTurn}
use Rattle.ut_bre.proofs.Turning.{turn-within}
use Rattle.ut_bre.proofs.Ended.{last-turn, star-is, star-takes}
use Rattle.ut_bre.proofs.groups.find_turn.Goals as goal

pub star_turn-requires-clause-order : goal.star_turn-requires-clause-order
star_turn-requires-clause-order c =
    let a = c.args in
    let e : a.left ≡ star = star-is a.left (sym c.is_star.ensures ∙ c.if-is_star.true) in
    star-takes a.left a.span.start a.span.end e c.requires.order c.requires.more

pub star_turn-requires-clause-matches : goal.star_turn-requires-clause-matches
star_turn-requires-clause-matches c =
    let a = c.args in
    let e : a.left ≡ star = star-is a.left (sym c.is_star.ensures ∙ c.if-is_star.true) in
    subst (λ (t : Times). Repeated (MatchesItems a.line.now (trees_of a.body.now)) t a.span.start a.span.end) e c.requires.matches

pub returns-then-is_star : goal.returns-then-is_star
returns-then-is_star c =
    let a = c.args in
    let body = trees_of a.body.now in
    let stop = c.in_ok-stop.stop in
    let e : a.left ≡ star = star-is a.left (sym c.is_star.ensures ∙ c.if-is_star.true) in
    let next = subst (λ (t : Times). IsNextTurn (MatchesItems a.line.now body) t a.span.start a.span.end stop) (sym e) c.in_ok-stop.ensures.next in
    let low = turn-within a.line.now body a.left a.span.start a.span.end stop next in
    record { next = next; turn = next.holds.1; within = omega (arith, low, c.requires.within); ends = c.in_ok-stop.ensures.ends }

pub returns-then-takes_none : goal.returns-then-takes_none
returns-then-takes_none c =
    let a = c.args in
    let body = trees_of a.body.now in
    let e = ap takes_none (sym c.less_one.ensures) ∙ (sym c.takes_none.ensures ∙ c.if-takes_none.true) in
    let next = last-turn a.line.now body a.left a.span.start a.span.end e c.requires.more c.requires.matches in
    record { next = next; turn = next.holds.1; within = c.requires.within; ends = c.requires.ends }
