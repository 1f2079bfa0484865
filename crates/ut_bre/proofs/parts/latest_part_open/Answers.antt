use Rattle.std.proofs.Common.{◌+◌, ◌-◌, ◌≤◌, arith}
use Rattle.ut_bre.specs.Trees.{tree_of}
use Rattle.ut_bre.proofs.PartLemmas.{open-fitted}
use Rattle.ut_bre.proofs.parts.latest_part_open.Goals as goal

pub returns : goal.returns
returns c =
    let a = c.args in
    let room = a.span.end - a.span.start in
    let h : a.span.end ≤ a.span.start + room = omega arith in
    open-fitted a.line.now (tree_of a.item.now) (tree_of c.in_ok-own.own) a.times c.times.result a.behind.now a.span.start a.span.end room c.in_ok-found-2.found c.times.ensures h c.in_ok-own.ensures c.in_ok-found-2.ensures
