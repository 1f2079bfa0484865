use Rattle.std.proofs.Common.{◌≡◌, ℕ, ◌+◌, ◌-◌, ◌<◌, length, drop, subst, arith}
use Rattle.std.proofs.Math.Seq.{drop-length}
use Rattle.ut_bre.specs.Rows.{ArePlaceRows}
use Rattle.ut_bre.specs.Trees.{trees_of}
use Rattle.ut_bre.proofs.RowLemmas.{PlacesFound, places-none, places-more}
use Rattle.ut_bre.proofs.place_rows.push_places.Goals as goal

pub items-init : goal.items-init
items-init c =
    let a = c.args in
    record {
      within = omega arith;
      found = places-none a.line.now (drop (length a.items.now) a.items.now) a.span.start a.span.end a.bottom.now _ (drop-length a.items.now) c.requires.none c.requires.tells;
    }

pub items-preserved : goal.items-preserved
items-preserved c =
    let a = c.args in
    let items = a.items.now in
    let lt : c.items.at - 1 < length items = omega (arith, c.items.invariant.within, c.items-test.true) in
    let next : c.items.at ≡ (c.items.at - 1) + 1 = omega (arith, c.items-test.true) in
    let found = subst (λ (k : ℕ). PlacesFound a.line.now (drop k items) a.span.start a.span.end a.bottom.now c.items.rows.items) next c.items.invariant.found in
    record {
      within = omega (arith, c.items.invariant.within);
      found = places-more a.line.now items (c.items.at - 1) c.index-items-at.result a.span.start a.span.end a.bottom.now c.items.rows.items c.put_row.new.rows.items c.top.result.now c.in_ok-row.row c.times.result c.has_groups.result lt c.index-items-at.is found c.top.ensures c.times.ensures c.in_ok-row.ensures c.in_ok-put_row.ensures;
    }

pub returns : goal.returns
returns c =
    let a = c.args in
    let none : c.items.at ≡ 0 = omega (arith, c.items-test.false) in
    subst (λ (k : ℕ). ArePlaceRows a.line.now a.span.start a.span.end (trees_of (drop k a.items.now)) c.items.rows.items) none c.items.invariant.found.each
