use Rattle.std.proofs.Common.{◌≡◌, ◌+◌, ◌-◌, List, length, subst, arith}
use Rattle.ut_places.specs.Steps.{IsImage}
use Rattle.ut_bre.specs.declared.tree.Item.{Item}
use Rattle.ut_bre.specs.Expressions.{expression}
use Rattle.ut_bre.specs.Images.{Until}
use Rattle.ut_bre.specs.Matching.{MatchesItems}
use Rattle.ut_bre.specs.Trees.{trees_of}
use Rattle.ut_bre.proofs.Halved.{farthest-of}
use Rattle.ut_bre.proofs.bre.Bre.farthest.Goals as goal

pub returns : goal.returns
returns c =
    let a = c.args in
    let line = a.line.now in
    let starts = c.in_ok-starts.starts in
    let ends = c.in_ok-ends.ends in
    let z : length line + 1 - 1 ≡ length line = omega arith in
    let image = subst (λ (xs : List Item). IsImage (Until (MatchesItems line (trees_of xs)) (length line)) starts ends) c.as_slice.ensures.value c.in_ok-ends.ensures in
    farthest-of (expression a.self.now) line a.from a.to (length line + 1 - 1) starts ends c.last_end.result z c.requires.anchored c.in_ok-starts.ensures image c.last_end.ensures
