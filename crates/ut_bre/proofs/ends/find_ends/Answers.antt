use Rattle.std.proofs.Common.{◌≡◌, ℕ, ◌+◌, ◌-◌, ◌<◌, List, get_or, length, refl, sym, ap, ◌∙◌, subst, arith}
use Rattle.std.specs.Prelude.{None}
use Rattle.ut_bre.specs.Trees.{trees_of}
use Rattle.ut_bre.specs.Matching.{MatchesItems}
use Rattle.ut_bre.specs.Walking.{Mark, Step, flow_items, step_items}
use Rattle.ut_bre.specs.Mirroring.{mirror}
use Rattle.ut_bre.specs.Ends.{mark_at, EndsAt, AreEnds}
use Rattle.ut_bre.proofs.CallLemmas.{flow-called, step-called}
use Rattle.ut_bre.proofs.Mirrored.{backward-at}
use Rattle.ut_bre.proofs.Ended.{Backed, backed-fresh, backed-on, count-more, ends-more, no-ends}
use Rattle.ut_bre.proofs.ends.find_ends.Goals as goal

pub places-init : goal.places-init
places-init c =
    let a = c.args in
    let R = MatchesItems a.line.now (trees_of a.body.now) in
    record {
      count = ap length c.clear.ensures.items;
      backed = subst (λ (marks : List Mark). Backed a.line.now (trees_of a.body.now) a.span.end 0 marks _) (sym c.clear-2.ensures.items) (backed-fresh a.line.now (trees_of a.body.now) a.span.end);
      ends = subst (AreEnds R a.span.end) (sym c.clear.ensures.items) (no-ends R a.span.end);
    }

pub places-preserved : goal.places-preserved
places-preserved c =
    let a = c.args in
    let body = trees_of a.body.now in
    let far = c.places.far in
    let end = a.span.end in
    let R = MatchesItems a.line.now body in
    let lt : far < end = omega (arith, c.places-test.true) in
    let b : ℕ = get_or a.line.now (end - far - 1) 0 in
    let at = backward-at a.line.now end far (end - far - 1) (omega arith) in
    let s = step-called (step_items b (mirror body)) c.in_ok-_after._after.out c.in_ok-_after._after.rest.now c.step_back.new.next.items _ _ c.places.marks.here.items _ (mark_at far c.places.found) c.as_slice.ensures.value c.mark_at-mark.ensures c.clear-in-places.ensures.items c.in_ok-_after.ensures in
    let here : c.swap.new.x.items ≡ c.step_back.new.next.items = cc (c.swap.ensures.x_after) in
    let out = flow-called (flow_items (mirror body)) c.flow_back-before.result.out _ _ c.swap.new.x.items _ None c.as_slice-in-places.ensures.value refl c.flow_back-before.ensures in
    let on = backed-on a.line.now body end far b c.places.marks.here.items c.swap.new.x.items c.places.found c.flow_back-before.result.out c.requires.within lt at (here ∙ ap (λ (k : Step). k.next) s) out c.places.invariant.backed in
    let new = subst (EndsAt R end (far + 1)) (sym c.end_at.ensures) on.1 in
    record {
      count = ap length c.in_ok-push.ensures.items ∙ count-more c.end_at.result far c.places.ends.items c.places.invariant.count;
      backed = on.0;
      ends = subst (AreEnds R end) (sym c.in_ok-push.ensures.items) (ends-more R end far c.end_at.result c.places.ends.items c.places.invariant.count new c.places.invariant.ends);
    }
