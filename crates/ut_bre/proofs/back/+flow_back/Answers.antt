use Rattle.std.proofs.Common.{◌≡◌, ◌+◌, ◌-◌, ◌<◌, length, drop, ap, ◌∙◌, arith}
use Rattle.ut_bre.specs.Trees.{tree_of, trees_of}
use Rattle.ut_bre.specs.Walking.{flow, flow_turn, flow_times, flow_items}
use Rattle.ut_bre.specs.Mirroring.{mirror_item, mirror}
use Rattle.ut_bre.proofs.BackLemmas.{back_flow}
use Rattle.ut_bre.proofs.back.+flow_back.Goals as goal

pub flow_back-items-preserved : goal.flow_back-items-preserved
flow_back-items-preserved t c =
    let items = c.args.items.now in
    let first = flow c.args.mark c.args.marks.now in
    let here = flow c.items.here.out c.items.here.rest.now in
    let lt : c.items.at - 1 < length items = omega (arith, c.items.invariant.within, c.items-test.true) in
    let next : c.items.at ≡ (c.items.at - 1) + 1 = omega (arith, c.items-test.true) in
    let told = c.items.invariant.told ∙ ap (λ k. flow_items (mirror (trees_of (drop k items))) first) next in
    let on = c.flow_times_back-here.ensures ∙ ap (λ times. flow_times (flow_turn (mirror_item (tree_of c.index-items-at.result))) times here) c.times.ensures in
    record {
      within = omega (arith, c.items.invariant.within);
      told = back_flow items (c.items.at - 1) c.index-items-at.result first here _ lt c.index-items-at.is told on;
    }
