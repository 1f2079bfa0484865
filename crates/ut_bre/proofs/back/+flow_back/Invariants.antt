use Rattle.std.proofs.Common.{◌≡◌, ◌≤◌, length, drop}
use Rattle.ut_bre.specs.Trees.{tree_of, trees_of}
use Rattle.ut_bre.specs.Walking.{flow, flow_turn, flow_items, repeat, out_of}
use Rattle.ut_bre.specs.Mirroring.{mirror_item, mirror}
use Rattle.ut_bre.proofs.back.+flow_back.Given as goal

abbrev pub invariant-flow_back-items : goal.invariant-flow_back-items
invariant-flow_back-items l = record {
  within : l.at ≤ length l.items;
  told : flow l.here.out l.here.rest.now ≡ flow_items (mirror (trees_of (drop l.at l.items))) (flow l.fn.mark l.fn.marks);
}

abbrev pub decreases-flow_back-items : goal.decreases-flow_back-items
decreases-flow_back-items l = l.at

abbrev pub invariant-flow_times_back-needed : goal.invariant-flow_times_back-needed
invariant-flow_times_back-needed l =
    flow l.here.out l.here.rest.now ≡ repeat (flow_turn (mirror_item (tree_of l.item))) l.counter (flow l.fn.mark l.fn.marks)

abbrev pub invariant-flow_times_back-more : goal.invariant-flow_times_back-more
invariant-flow_times_back-more l =
    (flow l.here.out l.here.rest.now ≡ repeat (flow_turn (mirror_item (tree_of l.item))) l.counter (flow l.initial.here.out l.initial.here.rest.now)) × (l.out ≡ out_of (flow_turn (mirror_item (tree_of l.item))) l.counter (flow l.initial.here.out l.initial.here.rest.now))
