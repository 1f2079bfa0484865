use Rattle.std.proofs.Common.{ℕ, subst, arith}
use Rattle.std.specs.Prelude.{Option, None}
use Rattle.std.proofs.lemmas.List.{nil_from_length}
use Rattle.ut_bre.specs.declared.tree.Times.{Times}
use Rattle.ut_bre.specs.Trees.{tree_of, trees_of, times_of}
use Rattle.ut_bre.specs.Picking.{rest_items, ReachesEnd, IsLatest}
use Rattle.ut_bre.proofs.Turning.{last-place, next-place, some-place, place-within}
use Rattle.ut_bre.proofs.groups.find_place.Goals as goal

pub returns-in-None : goal.returns-in-None
returns-in-None c =
    let a = c.args in
    let x = tree_of a.item.now in
    let xs = trees_of a.rest.now in
    let one = subst (λ (t : Times). IsLatest (ReachesEnd a.line.now x t (rest_items xs) a.span.start a.span.end) c.in_ok-found.found) c.times.ensures c.in_ok-found.ensures in
    absurd (some-place a.line.now x xs a.span.start a.span.end c.requires.matches (subst (λ (f : Option ℕ). IsLatest (ReachesEnd a.line.now x (times_of x) (rest_items xs) a.span.start a.span.end) f) c.in-None.is one))

pub returns-in-Some : goal.returns-in-Some
returns-in-Some c =
    let a = c.args in
    let x = tree_of a.item.now in
    let xs = trees_of a.rest.now in
    let one = subst (λ (t : Times). IsLatest (ReachesEnd a.line.now x t (rest_items xs) a.span.start a.span.end) c.in_ok-found.found) c.times.ensures c.in_ok-found.ensures in
    let next = next-place a.line.now x xs a.span.start a.span.end c.in-Some.stop (subst (λ (f : Option ℕ). IsLatest (ReachesEnd a.line.now x (times_of x) (rest_items xs) a.span.start a.span.end) f) c.in-Some.is one) in
    let low = place-within a.line.now x xs a.span.start a.span.end c.in-Some.stop next in
    record { next = next; turns = next.holds.0; within = omega (arith, low, c.requires.within) }

pub latest_part-requires-clause-some : goal.latest_part-requires-clause-some
latest_part-requires-clause-some c =
    let a = c.args in
    let x = tree_of a.item.now in
    let xs = trees_of a.rest.now in
    λ none. some-place a.line.now x xs a.span.start a.span.end c.requires.matches (subst (λ (t : Times). IsLatest (ReachesEnd a.line.now x t (rest_items xs) a.span.start a.span.end) None) c.times.ensures none)

pub returns-then-rest-eq0 : goal.returns-then-rest-eq0
returns-then-rest-eq0 c =
    let a = c.args in
    let x = tree_of a.item.now in
    let next = last-place a.line.now x a.rest.now a.span.start a.span.end (nil_from_length a.rest.now c.if-rest-eq0.true) c.requires.matches in
    record { next = next; turns = next.holds.0; within = c.requires.within }
