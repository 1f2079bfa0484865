use Rattle.std.proofs.Common.{◌≡◌, ℕ, ◌+◌, ◌-◌, ◌<◌, ◌≤◌, Some, slice_get, get_or, true, sym, ◌∙◌, subst, arith, length}
use Rattle.std.specs.Prelude.{◌↔◌}
use Rattle.ut_places.specs.Places.{Has}
use Rattle.ut_places.proofs.StepLemmas.{at-some}
use Rattle.ut_bre.specs.Trees.{meets}
use Rattle.ut_bre.specs.Matching.{MatchesOne}
use Rattle.ut_bre.specs.Relations.{Relates}
use Rattle.ut_bre.proofs.Related.{related-first, related-more, set-of-one, set-of-end}
use Rattle.ut_bre.proofs.relation.relate_one.Goals as goal

pub places-init : goal.places-init
places-init c =
    let a = c.args in
    let z : 0 ≡ a.span.start - a.span.start = omega arith in
    subst (λ n. Relates (MatchesOne a.line.now a.one.now) a.span.start (a.span.end - a.span.start) n c.new-table.result.items) z (related-first (MatchesOne a.line.now a.one.now) a.span.start (a.span.end - a.span.start) c.new-table.result.items c.new-table.ensures.items)

pub places-preserved : goal.places-preserved
places-preserved c =
    let a = c.args in
    let start = a.span.start in
    let size = a.span.end - a.span.start in
    let at = c.places.at in
    let low : start ≤ at = omega arith in
    let z : at ≡ start + (at - start) = omega arith in
    let inside : at < length a.line.now = omega arith in
    let lt : at - start < size = omega arith in
    let next : at - start + 1 ≡ at + 1 - start = omega arith in
    let b : ℕ = get_or a.line.now at 0 in
    let read : slice_get a.line.now (start + (at - start)) ≡ Some b = subst (λ k. slice_get a.line.now k ≡ Some b) z (at-some a.line.now at 0 inside) in
    let here : (j : ℕ) → Has c.in_ok-set.set j ↔ ((meets a.one.now b ≡ true) × (j ≡ at - start + 1)) = (λ j. (λ h. (let f = (c.in_ok-set.ensures j).0 h in (sym c.meets.ensures ∙ f.0, f.1 ∙ sym next)), λ (m, q). (c.in_ok-set.ensures j).1 (c.meets.ensures ∙ m, q ∙ next))) in
    subst (λ n. Relates (MatchesOne a.line.now a.one.now) start size n c.push.new.self.items) next (related-more (MatchesOne a.line.now a.one.now) start size (at - start) c.places.table.items c.push.new.self.items c.in_ok-set.set c.in_ok-push.ensures.items (set-of-one a.line.now a.one.now start size (at - start) b c.in_ok-set.set lt read here) c.places.invariant)

pub returns : goal.returns
returns c =
    let a = c.args in
    let start = a.span.start in
    let size = a.span.end - a.span.start in
    let order : start ≤ a.span.end = c.requires.order in
    let all : c.places.at - start ≡ size = omega arith in
    related-more (MatchesOne a.line.now a.one.now) start size size c.places.table.items c.push-2.new.self.items c.new.result c.in_ok-push-2.ensures.items (set-of-end a.line.now a.one.now start size c.new.result c.new.ensures) (subst (λ n. Relates (MatchesOne a.line.now a.one.now) start size n c.places.table.items) all c.places.invariant)
