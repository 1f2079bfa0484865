use Rattle.std.proofs.Common.{◌+◌, ◌-◌, ◌≤◌, List, sym, ap, subst, arith}
use Rattle.std.specs.Prelude.{None}
use Rattle.ut_bre.specs.declared.tree.Item.{Item}
use Rattle.ut_bre.specs.Trees.{tree_of, trees_of, times_of}
use Rattle.ut_bre.specs.Picking.{RestTree, rest_items, rest_turns, ReachesEnd, IsLatest}
use Rattle.ut_bre.specs.Resting.{rest_of}
use Rattle.ut_bre.specs.Fitting.{AreFitted}
use Rattle.ut_bre.proofs.PartLemmas.{latest-fitted, part-same, fitted_rest-items, fitted_rest-turns}
use Rattle.ut_bre.proofs.parts.latest_fitted.Goals as goal

pub latest_of-requires-clause-some : goal.latest_of-requires-clause-some
latest_of-requires-clause-some c =
    let a = c.args in
    let x = tree_of a.own.now in
    let room = a.span.end - a.span.start in
    let h : a.span.end ≤ a.span.start + room = omega arith in
    let xs = trees_of c.in-Items.items.now in
    let ys = trees_of c.as_slice.result.now in
    let f = subst (λ (v : List Item). AreFitted room xs (trees_of v)) (sym c.as_slice.ensures.value) c.in_ok-items-in-Items.ensures in
    λ none. c.requires.some (subst (λ (r : RestTree). IsLatest (ReachesEnd a.line.now x (times_of x) r a.span.start a.span.end) None) (sym (ap rest_of c.in-Items.is)) (latest-fitted a.line.now x x (times_of x) c.times.result (rest_items xs) (rest_items ys) a.span.start a.span.end room None c.times.ensures h (part-same room x) (fitted_rest-items room xs ys f) none))

pub returns-in_ok-found-in-Items : goal.returns-in_ok-found-in-Items
returns-in_ok-found-in-Items c =
    let a = c.args in
    let x = tree_of a.own.now in
    let room = a.span.end - a.span.start in
    let h : a.span.end ≤ a.span.start + room = omega arith in
    let xs = trees_of c.in-Items.items.now in
    let ys = trees_of c.as_slice.result.now in
    let f = subst (λ (v : List Item). AreFitted room xs (trees_of v)) (sym c.as_slice.ensures.value) c.in_ok-items-in-Items.ensures in
    subst (λ (r : RestTree). IsLatest (ReachesEnd a.line.now x (times_of x) r a.span.start a.span.end) c.in_ok-found-in-Items.found) (sym (ap rest_of c.in-Items.is)) (latest-fitted a.line.now x x (times_of x) c.times.result (rest_items xs) (rest_items ys) a.span.start a.span.end room c.in_ok-found-in-Items.found c.times.ensures h (part-same room x) (fitted_rest-items room xs ys f) c.in_ok-found-in-Items.ensures)

pub latest_of-requires-in-Turns-clause-some : goal.latest_of-requires-in-Turns-clause-some
latest_of-requires-in-Turns-clause-some c =
    let a = c.args in
    let x = tree_of a.own.now in
    let room = a.span.end - a.span.start in
    let h : a.span.end ≤ a.span.start + room = omega arith in
    let y = tree_of c.in-Turns.other.now in
    let z = tree_of c.in_ok-other-in-Turns.other in
    let f = fitted_rest-turns room y z c.in-Turns.left c.times-in-Turns-2.result c.times-in-Turns-2.ensures c.in_ok-other-in-Turns.ensures in
    λ none. c.requires.some (subst (λ (r : RestTree). IsLatest (ReachesEnd a.line.now x (times_of x) r a.span.start a.span.end) None) (sym (ap rest_of c.in-Turns.is)) (latest-fitted a.line.now x x (times_of x) c.times-in-Turns.result (rest_turns y c.in-Turns.left) (rest_turns z c.times-in-Turns-2.result) a.span.start a.span.end room None c.times-in-Turns.ensures h (part-same room x) f none))

pub returns-in_ok-found-in-Turns : goal.returns-in_ok-found-in-Turns
returns-in_ok-found-in-Turns c =
    let a = c.args in
    let x = tree_of a.own.now in
    let room = a.span.end - a.span.start in
    let h : a.span.end ≤ a.span.start + room = omega arith in
    let y = tree_of c.in-Turns.other.now in
    let z = tree_of c.in_ok-other-in-Turns.other in
    let f = fitted_rest-turns room y z c.in-Turns.left c.times-in-Turns-2.result c.times-in-Turns-2.ensures c.in_ok-other-in-Turns.ensures in
    subst (λ (r : RestTree). IsLatest (ReachesEnd a.line.now x (times_of x) r a.span.start a.span.end) c.in_ok-found-in-Turns.found) (sym (ap rest_of c.in-Turns.is)) (latest-fitted a.line.now x x (times_of x) c.times-in-Turns.result (rest_turns y c.in-Turns.left) (rest_turns z c.times-in-Turns-2.result) a.span.start a.span.end room c.in_ok-found-in-Turns.found c.times-in-Turns.ensures h (part-same room x) f c.in_ok-found-in-Turns.ensures)
