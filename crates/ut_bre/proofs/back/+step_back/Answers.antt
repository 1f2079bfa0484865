use Rattle.std.proofs.Common.{◌≡◌, ◌+◌, ◌-◌, ◌<◌, length, drop, ap, ◌∙◌, arith}
use Rattle.ut_bre.specs.Trees.{tree_of, trees_of}
use Rattle.ut_bre.specs.Walking.{step, flow_turn, step_turn, step_times, step_items}
use Rattle.ut_bre.specs.Mirroring.{mirror_item, mirror}
use Rattle.ut_bre.proofs.BackLemmas.{back_step}
use Rattle.ut_bre.proofs.back.+step_back.Goals as goal

pub step_back-items-preserved : goal.step_back-items-preserved
step_back-items-preserved t c =
    let items = c.args.items.now in
    let b = c.args.b in
    let first = step c.args.mark c.args.marks.now c.args.next.now.items in
    let here = step c.items.here.out c.items.here.rest.now c.items.next.items in
    let lt : c.items.at - 1 < length items = omega (arith, c.items.invariant.within, c.items-test.true) in
    let next : c.items.at ≡ (c.items.at - 1) + 1 = omega (arith, c.items-test.true) in
    let told = c.items.invariant.told ∙ ap (λ k. step_items b (mirror (trees_of (drop k items))) first) next in
    let on = c.in_ok-here.ensures ∙ ap (λ times. step_times (flow_turn (mirror_item (tree_of c.index-items-at.result))) (step_turn b (mirror_item (tree_of c.index-items-at.result))) times here) c.times.ensures in
    record {
      within = omega (arith, c.items.invariant.within);
      told = back_step b items (c.items.at - 1) c.index-items-at.result first here _ lt c.index-items-at.is told on;
    }
