use Rattle.std.proofs.Common.{◌≡◌, ℕ, ◌+◌, ◌-◌, ◌<◌, List, [], ◌∷◌, ◌++◌, Bool, get_or, sym, ap, ◌∙◌, subst, arith}
use Rattle.ut_bre.specs.Trees.{tree_of}
use Rattle.ut_bre.specs.Matching.{Repeated}
use Rattle.ut_bre.specs.Picking.{MatchesTurn}
use Rattle.ut_bre.specs.Walking.{Mark, Step, flow_turn, flow_times, step_turn, step_times}
use Rattle.ut_bre.specs.Mirroring.{mirror_item}
use Rattle.ut_bre.specs.Rows.{lead, IsRow}
use Rattle.ut_bre.proofs.CallLemmas.{flow-called, step-called}
use Rattle.ut_bre.proofs.Mirrored.{backward-at}
use Rattle.ut_bre.proofs.Rowed.{Rowed, rowed-fresh, rowed-on, rowed-end}
use Rattle.ut_bre.proofs.rows.find_row.Goals as goal

pub places-init : goal.places-init
places-init c =
    let a = c.args in
    let fresh = rowed-fresh a.line.now (tree_of a.item.now) a.times a.behind.now a.span.end in
    let none = subst (λ (row : List Bool). Rowed a.line.now (tree_of a.item.now) a.times a.behind.now a.span.end 0 [] row) (sym c.new-row.ensures) fresh in
    subst (λ (marks : List Mark). Rowed a.line.now (tree_of a.item.now) a.times a.behind.now a.span.end 0 marks c.new-row.result) (sym c.clear.ensures.items) none

pub places-preserved : goal.places-preserved
places-preserved c =
    let a = c.args in
    let x = tree_of a.item.now in
    let y = mirror_item x in
    let far = c.places.far in
    let end = a.span.end in
    let lt : far < end = omega (arith, c.places-test.true) in
    let b : ℕ = get_or a.line.now (end - far - 1) 0 in
    let at = backward-at a.line.now end far (end - far - 1) (omega arith) in
    let s = step-called (step_times (flow_turn y) (step_turn b y) a.times) c.in_ok-here.here.out c.in_ok-here.here.rest.now c.step_times_back.new.next.items _ _ c.places.marks.here.items _ (lead a.behind.now far) c.as_slice.ensures.value c.lead-mark.ensures c.clear-in-places.ensures.items c.in_ok-here.ensures in
    let here : c.swap.new.x.items ≡ c.step_times_back.new.next.items = cc (c.swap.ensures.x_after) in
    let on = rowed-on a.line.now x a.times a.behind.now end far b c.places.marks.here.items c.swap.new.x.items c.places.row c.in_ok-here.here.out c.requires.within lt at (here ∙ ap (λ (k : Step). k.next) s) (ap (λ (k : Step). k.flow.out) s) c.places.invariant in
    let put = c.in_ok-push.ensures ∙ ap (λ (leads : Bool). c.places.row ++ leads ∷ []) c.is_some-leads.ensures in
    subst (λ (row : List Bool). Rowed a.line.now x a.times a.behind.now end (far + 1) c.swap.new.x.items row) (sym put) on

pub returns : goal.returns
returns c =
    let a = c.args in
    let x = tree_of a.item.now in
    let y = mirror_item x in
    let start = a.span.start in
    let end = a.span.end in
    let last : c.places.far ≡ end - start = omega (arith, c.places-test.false, c.requires.order) in
    let w = subst (λ (n : ℕ). Rowed a.line.now x a.times a.behind.now end n c.places.marks.here.items c.places.row) last c.places.invariant in
    let o = flow-called (flow_times (flow_turn y) a.times) c.flow_times_back-last.result.out _ _ c.places.marks.here.items _ (lead a.behind.now (end - start)) c.as_slice-2.ensures.value c.lead-mark-2.ensures c.flow_times_back-last.ensures in
    let put = c.in_ok-push-2.ensures ∙ ap (λ (leads : Bool). c.places.row ++ leads ∷ []) c.is_some-leads-2.ensures in
    subst (IsRow (Repeated (MatchesTurn a.line.now x) a.times) a.behind.now start end) (sym put) (rowed-end a.line.now x a.times a.behind.now start end c.places.marks.here.items c.places.row c.flow_times_back-last.result.out c.requires.within o w)
