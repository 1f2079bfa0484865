use Rattle.std.proofs.Common.{◌≡◌, ℕ, ◌+◌, ◌-◌, ◌<◌, ◌≤◌, Bool, true, length, slice_get, sym, ap, ◌∙◌, subst, arith}
use Rattle.std.specs.Prelude.{Some, ◌↔◌}
use Rattle.ut_places.proofs.StepLemmas.{at-some}
use Rattle.ut_bre.specs.Picking.{MatchesRest, IsLatest}
use Rattle.ut_bre.specs.Resting.{rest_of}
use Rattle.ut_bre.proofs.Latest.{sound_rest}
use Rattle.ut_bre.specs.Rows.{LeadsOn}
use Rattle.ut_bre.specs.Relations.{OpensAt}
use Rattle.ut_bre.proofs.Rowed.{ToldBelow, told-push, more-count, told-where}
use Rattle.ut_bre.proofs.Opened.{row-bit}
use Rattle.ut_bre.proofs.by_sets.related_row.Goals as goal

pub places-preserved : goal.places-preserved
places-preserved c =
    let a = c.args in
    let start = a.span.start in
    let end = a.span.end in
    let size = end - start in
    let line = a.line.now in
    let order : start ≤ end = c.requires.order in
    let z : start + size ≡ end = omega arith in
    let table = c.in_ok-table.table.items in
    let r = c.in_ok-table.ensures in
    let count : length table ≡ size + 1 = r.count in
    let set = c.index.result.now in
    let rest = rest_of a.rest in
    let R = MatchesRest line rest in
    let far = c.places.far in
    let few : far < c.len-places.result = c.places-test.true in
    let places : c.len-places.result - 1 ≡ size = omega (arith, c.in_ok-table.table.ok.0) in
    let k : ℕ = c.len-places.result - 1 - far in
    let inside : c.len-places.result - 1 - far < length table = omega (arith, c.in_ok-table.table.ok.0) in
    let low : c.len-places.result - 1 - far ≤ size = omega (arith, c.in_ok-table.table.ok.0) in
    let is : end - far ≡ start + (c.len-places.result - 1 - far) = omega (arith, c.in_ok-table.table.ok.0) in
    let at : slice_get table k ≡ Some set = at-some table k set inside ∙ ap Some (sym c.index.ensures) in
    let last = subst (λ n. IsLatest (OpensAt set a.behind.now n) c.last_open-found.result) places c.last_open-found.ensures in
    let bit = row-bit R start end size k (end - far) a.behind.now table set c.last_open-found.result (sound_rest line rest).ordered z r low at is last in
    let leads = subst (λ (b : Bool). (b ≡ true) ↔ LeadsOn R a.behind.now end (end - far)) (sym c.is_some-leads.ensures) bit in
    let row = c.places.row in
    let told = told-push (LeadsOn R a.behind.now end) end far row c.is_some-leads.result c.places.invariant.count c.places.invariant.told leads in
    record {
      count = ap length c.in_ok-push.ensures ∙ more-count row c.is_some-leads.result far c.places.invariant.count;
      told = subst (ToldBelow (LeadsOn R a.behind.now end) end (far + 1)) (sym c.in_ok-push.ensures) told;
    }

pub returns : goal.returns
returns c =
    let a = c.args in
    let start = a.span.start in
    let end = a.span.end in
    let order : start ≤ end = c.requires.order in
    let R = MatchesRest a.line.now (rest_of a.rest) in
    let count : length c.in_ok-table.table.items ≡ end - start + 1 = c.in_ok-table.ensures.count in
    let all : c.places.far ≡ end - start + 1 = omega (arith, c.in_ok-table.table.ok.0) in
    told-where (LeadsOn R a.behind.now end) start end c.places.row (subst (λ n. ToldBelow (LeadsOn R a.behind.now end) end n c.places.row) all c.places.invariant.told)
