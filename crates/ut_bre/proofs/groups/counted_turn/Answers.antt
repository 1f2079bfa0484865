use Rattle.std.proofs.Common.{ℕ, subst, arith}
use Rattle.std.specs.Prelude.{Option, None}
use Rattle.ut_bre.specs.declared.tree.Times.{Times}
use Rattle.ut_bre.specs.Trees.{tree_of, trees_of}
use Rattle.ut_bre.specs.Times.{once, less_one}
use Rattle.ut_bre.specs.Picking.{rest_turns, ReachesEnd, IsLatest}
use Rattle.ut_bre.proofs.Turning.{next-turn-of, some-turn-of, turn-within}
use Rattle.ut_bre.proofs.groups.counted_turn.Goals as goal

pub returns-in-None : goal.returns-in-None
returns-in-None c =
    let a = c.args in
    let x = tree_of a.item.now in
    let one = subst (λ (t : Times). IsLatest (ReachesEnd a.line.now x t (rest_turns x c.less_one.result) a.span.start a.span.end) c.in_ok-found.found) c.once.ensures c.in_ok-found.ensures in
    let two = subst (λ (t : Times). IsLatest (ReachesEnd a.line.now x once (rest_turns x t) a.span.start a.span.end) c.in_ok-found.found) c.less_one.ensures one in
    absurd (some-turn-of a.line.now x (trees_of a.body.now) a.left a.span.start a.span.end c.requires.is_group c.requires.more c.requires.matches (subst (λ (f : Option ℕ). IsLatest (ReachesEnd a.line.now x once (rest_turns x (less_one a.left)) a.span.start a.span.end) f) c.in-None.is two))

pub returns-in-Some : goal.returns-in-Some
returns-in-Some c =
    let a = c.args in
    let x = tree_of a.item.now in
    let one = subst (λ (t : Times). IsLatest (ReachesEnd a.line.now x t (rest_turns x c.less_one.result) a.span.start a.span.end) c.in_ok-found.found) c.once.ensures c.in_ok-found.ensures in
    let two = subst (λ (t : Times). IsLatest (ReachesEnd a.line.now x once (rest_turns x t) a.span.start a.span.end) c.in_ok-found.found) c.less_one.ensures one in
    let next = next-turn-of a.line.now x (trees_of a.body.now) a.left a.span.start a.span.end c.in-Some.stop c.requires.is_group c.requires.more c.requires.matches (subst (λ (f : Option ℕ). IsLatest (ReachesEnd a.line.now x once (rest_turns x (less_one a.left)) a.span.start a.span.end) f) c.in-Some.is two) in
    let low = turn-within a.line.now (trees_of a.body.now) a.left a.span.start a.span.end c.in-Some.stop next in
    record { next = next; turn = next.holds.1; within = omega (arith, low, c.requires.within) }

pub latest_part-requires-clause-some : goal.latest_part-requires-clause-some
latest_part-requires-clause-some c =
    let a = c.args in
    let x = tree_of a.item.now in
    λ none.
    (let one = subst (λ (t : Times). IsLatest (ReachesEnd a.line.now x t (rest_turns x c.less_one.result) a.span.start a.span.end) None) c.once.ensures none in
    let two = subst (λ (t : Times). IsLatest (ReachesEnd a.line.now x once (rest_turns x t) a.span.start a.span.end) None) c.less_one.ensures one in
    some-turn-of a.line.now x (trees_of a.body.now) a.left a.span.start a.span.end c.requires.is_group c.requires.more c.requires.matches two)
