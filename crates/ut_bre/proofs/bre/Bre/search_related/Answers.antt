use Rattle.std.proofs.Common.{◌≡◌, ◌+◌, ◌-◌, ◌<◌, ◌≤◌, List, length, slice_get, true, sym, ap, ◌∙◌, subst, arith}
use Rattle.std.specs.Prelude.{Some, None}
use Rattle.ut_places.proofs.StepLemmas.{at-some}
use Rattle.ut_bre.specs.declared.tree.Item.{Item}
use Rattle.ut_bre.specs.Expressions.{expression}
use Rattle.ut_bre.specs.Trees.{trees_of}
use Rattle.ut_bre.specs.Matching.{MatchesItems}
use Rattle.ut_bre.specs.Relations.{IsRelation, IsLastEnd}
use Rattle.ut_bre.proofs.Sought.{none-here, found-here, none-left}
use Rattle.ut_bre.proofs.bre.Bre.search_related.Goals as goal
use Rattle.ut_bre.proofs.bre.Bre.search_related.Goals.{else-self-via-then-self+else-from-far-gt0, else-self-via-else-self}

pub returns-in-Some : goal.returns-in-Some
returns-in-Some c =
    let e = expression c.args.self.now in
    let line = c.args.line.now in
    let from = c.args.from in
    let size = length line - from in
    let far = c.starts.far in
    let table = c.in_ok-table.table.items in
    let set = c.index.result.now in
    let z : from + size ≡ length line = omega arith in
    let r = subst (λ (xs : List Item). IsRelation (MatchesItems line (trees_of xs)) from size table) c.as_slice.ensures.value c.in_ok-table.ensures in
    let count : length table ≡ size + 1 = r.count in
    let inside : far < length table = omega (arith, c.in_ok-table.table.ok.0) in
    let lt : far < size + 1 = omega arith in
    let at : slice_get table far ≡ Some set = at-some table far set inside ∙ ap Some (sym c.index.ensures) in
    let first : e.at_start ≡ true → from + far ≤ 0 = (λ q. elim c.else-self.branch [ else-self-via-then-self+else-from-far-gt0 w ↦ omega arith | else-self-via-else-self w ↦ absurd (cc (q, w.if-self.false)) ]) in
    let places : c.len.result - 1 ≡ size = omega (arith, c.in_ok-table.table.ok.0) in
    let last = subst (λ n. IsLastEnd set e.at_end n (Some c.in-Some.end)) places c.in-Some.ensures in
    found-here e line from size far c.in-Some.end table set z r at lt first last c.starts.invariant

pub starts-preserved : goal.starts-preserved
starts-preserved c =
    let e = expression c.args.self.now in
    let line = c.args.line.now in
    let from = c.args.from in
    let size = length line - from in
    let far = c.starts.far in
    let table = c.in_ok-table.table.items in
    let set = c.index.result.now in
    let z : from + size ≡ length line = omega arith in
    let r = subst (λ (xs : List Item). IsRelation (MatchesItems line (trees_of xs)) from size table) c.as_slice.ensures.value c.in_ok-table.ensures in
    let count : length table ≡ size + 1 = r.count in
    let inside : far < length table = omega (arith, c.in_ok-table.table.ok.0) in
    let lt : far < size + 1 = omega arith in
    let at : slice_get table far ≡ Some set = at-some table far set inside ∙ ap Some (sym c.index.ensures) in
    let places : c.len.result - 1 ≡ size = omega (arith, c.in_ok-table.table.ok.0) in
    let none = subst (λ n. IsLastEnd set e.at_end n None) places c.in-None.ensures in
    none-here e line from size far table set z r at lt none c.starts.invariant

pub returns : goal.returns
returns c =
    let e = expression c.args.self.now in
    let line = c.args.line.now in
    let from = c.args.from in
    let size = length line - from in
    let table = c.in_ok-table.table.items in
    let z : from + size ≡ length line = omega arith in
    let r = subst (λ (xs : List Item). IsRelation (MatchesItems line (trees_of xs)) from size table) c.as_slice.ensures.value c.in_ok-table.ensures in
    let count : length table ≡ size + 1 = r.count in
    let past : size < c.starts.far = omega (arith, c.in_ok-table.table.ok.0) in
    none-left e line from size c.starts.far z past c.starts.invariant
