use Rattle.std.proofs.Common.{◌+◌, ◌-◌, ◌≤◌, refl, arith}
use Rattle.std.specs.Prelude.{None}
use Rattle.ut_bre.specs.Trees.{tree_of, times_of}
use Rattle.ut_bre.specs.Resting.{rest_of}
use Rattle.ut_bre.proofs.PartLemmas.{latest-fitted, rest-same}
use Rattle.ut_bre.proofs.parts.latest_part.Goals as goal

pub latest_fitted-requires-clause-some : goal.latest_fitted-requires-clause-some
latest_fitted-requires-clause-some c =
    let a = c.args in
    let room = a.span.end - a.span.start in
    let y = tree_of c.in_ok-own.own in
    let h : a.span.end ≤ a.span.start + room = omega arith in
    λ none. c.requires.some (latest-fitted a.line.now (tree_of a.item.now) y a.times (times_of y) (rest_of a.rest) (rest_of a.rest) a.span.start a.span.end room None refl h c.in_ok-own.ensures (rest-same room (rest_of a.rest)) none)

pub returns : goal.returns
returns c =
    let a = c.args in
    let room = a.span.end - a.span.start in
    let y = tree_of c.in_ok-own.own in
    let h : a.span.end ≤ a.span.start + room = omega arith in
    latest-fitted a.line.now (tree_of a.item.now) y a.times (times_of y) (rest_of a.rest) (rest_of a.rest) a.span.start a.span.end room c.in_ok-found-2.found refl h c.in_ok-own.ensures (rest-same room (rest_of a.rest)) c.in_ok-found-2.ensures
