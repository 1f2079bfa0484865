use Rattle.std.proofs.Common.{◌≡◌, ◌≤◌, length, drop}
use Rattle.ut_bre.specs.Trees.{tree_of, trees_of}
use Rattle.ut_bre.specs.Walking.{step, step_turn, step_items, repeat, step_out}
use Rattle.ut_bre.specs.Mirroring.{mirror_item, mirror}
use Rattle.ut_bre.proofs.back.+step_back.Given as goal

abbrev pub invariant-step_back-items : goal.invariant-step_back-items
invariant-step_back-items l = record {
  within : l.at ≤ length l.items;
  told : step l.here.out l.here.rest.now l.next.items ≡ step_items l.b (mirror (trees_of (drop l.at l.items))) (step l.fn.mark l.fn.marks l.initial.next.items);
}

abbrev pub decreases-step_back-items : goal.decreases-step_back-items
decreases-step_back-items l = l.at

abbrev pub invariant-step_times_back-needed : goal.invariant-step_times_back-needed
invariant-step_times_back-needed l =
    step l.here.out l.here.rest.now l.next.items ≡ repeat (step_turn l.b (mirror_item (tree_of l.item))) l.counter (step l.fn.mark l.fn.marks l.initial.next.items)

abbrev pub invariant-step_times_back-more : goal.invariant-step_times_back-more
invariant-step_times_back-more l =
    (step l.here.out l.here.rest.now l.next.items ≡ repeat (step_turn l.b (mirror_item (tree_of l.item))) l.counter (step l.initial.here.out l.initial.here.rest.now l.initial.next.items)) × (l.out ≡ step_out (step_turn l.b (mirror_item (tree_of l.item))) l.counter (step l.initial.here.out l.initial.here.rest.now l.initial.next.items))
