use Rattle.std.proofs.Common.{◌≡◌, ◌+◌, ◌<◌, List, ℕ, length, get_or, sym, ap, ◌∙◌, subst, arith}
use Rattle.std.specs.Prelude.{None}
use Rattle.std.proofs.lemmas.Option.{slice_get-get_or}
use Rattle.ut_bre.specs.Trees.{tree_of}
use Rattle.ut_bre.specs.Walking.{Mark, Step, flow_turn, flow_times, step_turn, step_times}
use Rattle.ut_bre.specs.Resting.{first_seed}
use Rattle.ut_bre.specs.Settling.{are_none}
use Rattle.ut_bre.proofs.CallLemmas.{flow-called, step-called}
use Rattle.ut_bre.proofs.Reached.{Reached, reached-fresh, reached-on, reached-end, reached-all}
use Rattle.ut_bre.proofs.rows.latest_open.Goals as goal

pub places-init : goal.places-init
places-init c =
    let a = c.args in
    subst (λ (marks : List Mark). Reached a.line.now (tree_of a.item.now) a.times a.behind.now a.span.start a.span.end a.span.start marks None) (sym c.clear.ensures.items) (reached-fresh a.line.now (tree_of a.item.now) a.times a.behind.now a.span.start a.span.end)

pub places-preserved : goal.places-preserved
places-preserved c =
    let a = c.args in
    let x = tree_of a.item.now in
    let at = c.places.at in
    let b = get_or a.line.now at 0 in
    let within : at < length a.line.now = omega (arith, c.places-test.true, c.requires.within) in
    let s = step-called (step_times (flow_turn x) (step_turn b x) a.times) c.in_ok-here.here.out c.in_ok-here.here.rest.now c.step_times.new.next.items _ _ c.places.marks.here.items _ (first_seed at a.span.start) c.as_slice.ensures.value c.first_seed-mark.ensures c.clear-in-places.ensures.items c.in_ok-here.ensures in
    let front : c.swap.new.x.items ≡ c.step_times.new.next.items = cc (c.swap.ensures.x_after) in
    reached-on a.line.now x a.times a.behind.now a.span.start a.span.end at b c.places.marks.here.items c.swap.new.x.items c.places.best c.later-best.result c.in_ok-here.here.out c.is_open-leads.result (slice_get-get_or a.line.now at 0 within) c.places-test.true (ap (λ (k : Step). k.flow.out) s) (front ∙ ap (λ (k : Step). k.next) s) (sym c.is_open-leads.ensures) c.later-best.ensures c.places.invariant

pub returns-then-are_none : goal.returns-then-are_none
returns-then-are_none c =
    let a = c.args in
    let x = tree_of a.item.now in
    let at = c.places.at in
    let b = get_or a.line.now at 0 in
    let within : at < length a.line.now = omega (arith, c.places-test.true, c.requires.within) in
    let s = step-called (step_times (flow_turn x) (step_turn b x) a.times) c.in_ok-here.here.out c.in_ok-here.here.rest.now c.step_times.new.next.items _ _ c.places.marks.here.items _ (first_seed at a.span.start) c.as_slice.ensures.value c.first_seed-mark.ensures c.clear-in-places.ensures.items c.in_ok-here.ensures in
    let front : c.swap.new.x.items ≡ c.step_times.new.next.items = cc (c.swap.ensures.x_after) in
    let on = reached-on a.line.now x a.times a.behind.now a.span.start a.span.end at b c.places.marks.here.items c.swap.new.x.items c.places.best c.later-best.result c.in_ok-here.here.out c.is_open-leads.result (slice_get-get_or a.line.now at 0 within) c.places-test.true (ap (λ (k : Step). k.flow.out) s) (front ∙ ap (λ (k : Step). k.next) s) (sym c.is_open-leads.ensures) c.later-best.ensures c.places.invariant in
    let none = ap are_none (sym c.as_slice-in-places.ensures.value) ∙ (sym c.are_none.ensures ∙ c.if-are_none.true) in
    let lt : a.span.start < at + 1 = omega arith in
    reached-all a.line.now x a.times a.behind.now a.span.start a.span.end (at + 1) c.swap.new.x.items c.later-best.result lt none on

pub returns : goal.returns
returns c =
    let a = c.args in
    let x = tree_of a.item.now in
    let end = a.span.end in
    let last : c.places.at ≡ end = omega (arith, c.places-test.false, c.requires.order) in
    let p = subst (λ (n : ℕ). Reached a.line.now x a.times a.behind.now a.span.start end n c.places.marks.here.items c.places.best) last c.places.invariant in
    let o = flow-called (flow_times (flow_turn x) a.times) c.flow_times-here.result.out _ _ c.places.marks.here.items _ (first_seed end a.span.start) c.as_slice-2.ensures.value c.first_seed-mark-2.ensures c.flow_times-here.ensures in
    reached-end a.line.now x a.times a.behind.now a.span.start end c.places.marks.here.items c.places.best c.later-last.result c.flow_times-here.result.out c.is_open-leads-2.result o (sym c.is_open-leads-2.ensures) c.later-last.ensures p
