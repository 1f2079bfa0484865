-- Items without groups take nothing for one.
use Rattle.std.proofs.Common.{◌≡◌, ℕ, ◌+◌, ◌<◌, ◌≤◌, List, [], ◌++◌, Bool, true, false, drop, get_or, length, refl, sym, ap, ◌∙◌, subst}
use Rattle.std.specs.Prelude.{Option, ◌||◌}
use Rattle.std.proofs.lemmas.List.{append-nil}
use Rattle.rk_base.specs.Text.{Text}
use Rattle.ut_bre.specs.declared.tree.Item.{Item}
use Rattle.ut_bre.specs.declared.group.Span.{Span}
use Rattle.ut_bre.specs.Trees.{one, group, ItemsTree, no_items, item_and, tree_of, trees_of}
use Rattle.ut_bre.specs.Grouping.{is_group, has_groups}
use Rattle.ut_bre.specs.Picking.{rest_items, PicksItems, PutsItems, put_turns}
use Rattle.ut_bre.specs.Found.{latest, pick_items}
use Rattle.ut_bre.proofs.ItemLemmas.{drop_item}
use Rattle.ut_bre.proofs.Turning.{Placed}
use Rattle.ut_bre.proofs.Existing.{items-picked}

none-picked : (line : Text) (xs : ItemsTree) (i j : ℕ) → has_groups xs ≡ false → pick_items line xs i j ≡ []
none-picked line no_items i j e = refl
none-picked line (item_and (one times what) xs) i j e = none-picked line xs (latest line (one times what) times (rest_items xs) i j) j e
none-picked line (item_and (group times number body) xs) i j e = absurd (cc)

-- so what was put for those before them is all
pub placed-none : (line : Text) (all left : ItemsTree) (start end at : ℕ) (old new : List (Option Span)) → end ≤ length line → has_groups left ≡ false → Placed line all left start end at old new → PutsItems line all start end old new
placed-none line all left start end at old new h e p =
    let picks = subst (PicksItems line left at end) (none-picked line left at end e) (items-picked line left at end h p.matches) in
    (p.own ++ [], p.behind [] picks, p.is_put ∙ ap (λ xs. put_turns xs old) (sym (append-nil p.own)))

-- one item more

left-groups : (items : List Item) (i : ℕ) (item : Item) → i < length items → item ≡ get_or items i item → has_groups (trees_of (drop i items)) ≡ (is_group (tree_of item) || has_groups (trees_of (drop (i + 1) items)))
left-groups items i item h e = ap (λ xs. has_groups (trees_of xs)) (drop_item items i item h e)

pub groups_more : (items : List Item) (i : ℕ) (item : Item) (whole : Bool) → i < length items → item ≡ get_or items i item → is_group (tree_of item) ≡ false → has_groups (trees_of (drop i items)) ≡ whole → has_groups (trees_of (drop (i + 1) items)) ≡ whole
groups_more items i item whole h e none all =
    sym (left-groups items i item h e ∙ ap (λ b. b || has_groups (trees_of (drop (i + 1) items))) none) ∙ all

pub groups_here : (items : List Item) (i : ℕ) (item : Item) (whole : Bool) → i < length items → item ≡ get_or items i item → is_group (tree_of item) ≡ true → has_groups (trees_of (drop i items)) ≡ whole → true ≡ whole
groups_here items i item whole h e some all =
    sym (left-groups items i item h e ∙ ap (λ b. b || has_groups (trees_of (drop (i + 1) items))) some) ∙ all
