use Rattle.std.proofs.Common.{◌≡◌, ◌+◌, ◌-◌, ◌<◌, ◌≤◌, [], ◌∷◌, ◌++◌, Bool, true, length, slice_get, sym, ap, ◌∙◌, subst, arith}
use Rattle.std.specs.Prelude.{Some, ◌↔◌}
use Rattle.ut_places.proofs.StepLemmas.{at-some}
use Rattle.ut_bre.specs.Trees.{trees_of}
use Rattle.ut_bre.specs.Times.{star}
use Rattle.ut_bre.specs.Matching.{Repeated, MatchesItems}
use Rattle.ut_bre.specs.Picking.{IsLatest}
use Rattle.ut_bre.specs.Ends.{EndsAt, AreEnds}
use Rattle.ut_bre.specs.Rows.{Row}
use Rattle.ut_bre.specs.Relations.{OpensAt}
use Rattle.ut_bre.proofs.Laws.{sound_items}
use Rattle.ut_bre.proofs.Rowed.{ToldBelow, told-push, more-count}
use Rattle.ut_bre.proofs.Ended.{count-more, ends-more, no-ends}
use Rattle.ut_bre.proofs.Opened.{star-first, star-end}
use Rattle.ut_bre.proofs.by_sets.related_ends.Goals as goal

pub places-init : goal.places-init
places-init c =
    let a = c.args in
    let R = MatchesItems a.line.now (trees_of a.body.now) in
    let row : c.push.new.self ≡ true ∷ [] = c.in_ok-push.ensures ∙ ap (λ (xs : Row). xs ++ true ∷ []) c.new-row.ensures in
    record {
      count = ap length c.clear.ensures.items;
      ends = subst (AreEnds R a.span.end) (sym c.clear.ensures.items) (no-ends R a.span.end);
      size = ap length row;
      told = subst (ToldBelow (λ i. Repeated R star i a.span.end) a.span.end 1) (sym row) (star-first R a.span.end);
    }

pub places-preserved : goal.places-preserved
places-preserved c =
    let a = c.args in
    let start = a.span.start in
    let end = a.span.end in
    let size = end - start in
    let line = a.line.now in
    let order : start ≤ end = c.requires.order in
    let z : start + size ≡ end = omega arith in
    let table = c.in_ok-table.table.items in
    let r = c.in_ok-table.ensures in
    let count : length table ≡ size + 1 = r.count in
    let set = c.index.result.now in
    let body = trees_of a.body.now in
    let R = MatchesItems line body in
    let far = c.places.far in
    let lt : far < size = c.places-test.true in
    let places : c.len-places.result - 1 ≡ size = omega (arith, c.in_ok-table.table.ok.0) in
    let inside : size - far - 1 < length table = omega arith in
    let at : slice_get table (size - far - 1) ≡ Some set = at-some table (size - far - 1) set inside ∙ ap Some (sym c.index.ensures) in
    let last = subst (λ n. IsLatest (OpensAt set c.places.row n) c.last_open-found.result) places c.last_open-found.ensures in
    let f = star-end R start end size far c.places.row table set c.last_open-found.result (sound_items line body).ordered z lt r at c.places.invariant.size c.places.invariant.told last in
    let new = subst (EndsAt R end (far + 1)) (sym c.far_from.ensures) f.0 in
    let leads = subst (λ (b : Bool). (b ≡ true) ↔ Repeated R star (end - (far + 1)) end) (sym c.is_some-leads.ensures) f.1 in
    record {
      count = ap length c.in_ok-push-2.ensures.items ∙ count-more c.far_from.result far c.places.ends.items c.places.invariant.count;
      ends = subst (AreEnds R end) (sym c.in_ok-push-2.ensures.items) (ends-more R end far c.far_from.result c.places.ends.items c.places.invariant.count new c.places.invariant.ends);
      size = ap length c.in_ok-push-3.ensures ∙ more-count c.places.row c.is_some-leads.result (far + 1) c.places.invariant.size;
      told = subst (ToldBelow (λ i. Repeated R star i end) end (far + 1 + 1)) (sym c.in_ok-push-3.ensures) (told-push (λ i. Repeated R star i end) end (far + 1) c.places.row c.is_some-leads.result c.places.invariant.size c.places.invariant.told leads);
    }

pub returns : goal.returns
returns c =
    let size = c.args.span.end - c.args.span.start in
    let all : c.places.far ≡ size = omega arith in
    record { ends = c.places.invariant.ends; count = c.places.invariant.count ∙ all }
