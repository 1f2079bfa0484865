-- Items are gone through from the last one to the first.
use Rattle.std.proofs.Common.{◌≡◌, ℕ, ◌+◌, ◌<◌, List, drop, get_or, length, refl, sym, ap, ◌∙◌}
use Rattle.ut_bre.specs.declared.tree.Item.{Item}
use Rattle.ut_bre.specs.Trees.{ItemTree, one, group, ItemsTree, no_items, item_and, tree_of, trees_of, times_of}
use Rattle.ut_bre.specs.Walking.{Flow, Step, flow_turn, flow_times, flow_item, flow_items, step_turn, step_times, step_item, step_items}
use Rattle.ut_bre.specs.Mirroring.{put_last, mirror_item, mirror}
use Rattle.ut_bre.proofs.ItemLemmas.{flow_item-is, step_item-is, drop_item}

mirror-times : (x : ItemTree) → times_of (mirror_item x) ≡ times_of x
mirror-times (one times what) = refl
mirror-times (group times number body) = refl

flow-last : (ys : ItemsTree) (y : ItemTree) (f : Flow) → flow_items (put_last ys y) f ≡ flow_item y (flow_items ys f)
flow-last no_items y f = refl
flow-last (item_and x xs) y f = flow-last xs y (flow_item x f)

step-last : (b : ℕ) (ys : ItemsTree) (y : ItemTree) (s : Step) → step_items b (put_last ys y) s ≡ step_item b y (step_items b ys s)
step-last b no_items y s = refl
step-last b (item_and x xs) y s = step-last b xs y (step_item b x s)

pub back_flow : (items : List Item) (i : ℕ) (item : Item) (first here there : Flow) → i < length items → item ≡ get_or items i item → here ≡ flow_items (mirror (trees_of (drop (i + 1) items))) first → there ≡ flow_times (flow_turn (mirror_item (tree_of item))) (times_of (tree_of item)) here → there ≡ flow_items (mirror (trees_of (drop i items))) first
back_flow items i item first here there h e all it =
    let x : ItemTree = tree_of item in
    let y : ItemTree = mirror_item x in
    let ys : ItemsTree = mirror (trees_of (drop (i + 1) items)) in
    let turned = it ∙ (ap (λ times. flow_times (flow_turn y) times here) (sym (mirror-times x)) ∙ sym (flow_item-is y here)) in
    turned ∙ (ap (flow_item y) all ∙ (sym (flow-last ys y first) ∙ ap (λ xs. flow_items (mirror (trees_of xs)) first) (sym (drop_item items i item h e))))

pub back_step : (b : ℕ) (items : List Item) (i : ℕ) (item : Item) (first here there : Step) → i < length items → item ≡ get_or items i item → here ≡ step_items b (mirror (trees_of (drop (i + 1) items))) first → there ≡ step_times (flow_turn (mirror_item (tree_of item))) (step_turn b (mirror_item (tree_of item))) (times_of (tree_of item)) here → there ≡ step_items b (mirror (trees_of (drop i items))) first
back_step b items i item first here there h e all it =
    let x : ItemTree = tree_of item in
    let y : ItemTree = mirror_item x in
    let ys : ItemsTree = mirror (trees_of (drop (i + 1) items)) in
    let turned = it ∙ (ap (λ times. step_times (flow_turn y) (step_turn b y) times here) (sym (mirror-times x)) ∙ sym (step_item-is b y here)) in
    turned ∙ (ap (step_item b y) all ∙ (sym (step-last b ys y first) ∙ ap (λ xs. step_items b (mirror (trees_of xs)) first) (sym (drop_item items i item h e))))
