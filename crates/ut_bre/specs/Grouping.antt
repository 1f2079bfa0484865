-- Which items are groups.
use Rattle.std.specs.Prelude.{Bool, true, false, ◌||◌}
use Rattle.ut_bre.specs.Trees.{ItemTree, one, group, ItemsTree, no_items, item_and}

abbrev pub is_group : ItemTree → Bool
is_group (one times what) = false
is_group (group times number body) = true

abbrev pub has_groups : ItemsTree → Bool
has_groups no_items = false
has_groups (item_and x xs) = is_group x || has_groups xs
