use Rattle.std.proofs.Common.{◌≡◌, ◌<◌, ◌-◌, length, get_or, sym, subst, arith}
use Rattle.std.proofs.lemmas.List.{get_or_read}
use Rattle.ut_bre.specs.Trees.{trees_of}
use Rattle.ut_bre.specs.Times.{star}
use Rattle.ut_bre.specs.Matching.{MatchesItems}
use Rattle.ut_bre.specs.Picking.{IsNextTurn}
use Rattle.ut_bre.proofs.Ended.{end-kept}
use Rattle.ut_bre.proofs.ends.star_turn.Goals as goal

pub overflow_sub-result : goal.overflow_sub-result
overflow_sub-result c =
    let a = c.args in
    let ends = c.extend_ends.new.ends.items in
    let kept = end-kept (MatchesItems a.line.now (trees_of a.body.now)) a.span.start a.span.end ends c.requires.order c.in_ok-extend_ends.ensures.count c.in_ok-extend_ends.ensures.ends c.requires.matches in
    let lt : a.span.end - a.span.start - 1 < length ends = omega (arith, c.in_ok-extend_ends.ensures.count, c.requires.order) in
    let same : c.index-next.result.now ≡ get_or ends (a.span.end - a.span.start - 1) 0 = get_or_read ends _ _ lt c.index-next.ensures 0 in
    omega (arith, same, kept.0)

pub returns : goal.returns
returns c =
    let a = c.args in
    let R = MatchesItems a.line.now (trees_of a.body.now) in
    let ends = c.extend_ends.new.ends.items in
    let kept = end-kept R a.span.start a.span.end ends c.requires.order c.in_ok-extend_ends.ensures.count c.in_ok-extend_ends.ensures.ends c.requires.matches in
    let lt : a.span.end - a.span.start - 1 < length ends = omega (arith, c.in_ok-extend_ends.ensures.count, c.requires.order) in
    let same : c.index-next.result.now ≡ get_or ends (a.span.end - a.span.start - 1) 0 = get_or_read ends _ _ lt c.index-next.ensures 0 in
    record { next = subst (λ n. IsNextTurn R star a.span.start a.span.end (a.span.end - n)) (sym same) kept.1; ends = c.in_ok-extend_ends.ensures.ends }
