-- Items from the last one to the first: they match in a line that is gone along backward what the items match in the line.
use Rattle.ut_bre.specs.Trees.{ItemTree, one, group, ItemsTree, no_items, item_and}

-- an item behind these
abbrev pub put_last : ItemsTree → ItemTree → ItemsTree
put_last no_items y = item_and y no_items
put_last (item_and x xs) y = item_and x (put_last xs y)

abbrev mutual
  pub mirror_item : ItemTree → ItemTree
  mirror_item (one times what) = one times what
  mirror_item (group times number body) = group times number (mirror body)

  pub mirror : ItemsTree → ItemsTree
  mirror no_items = no_items
  mirror (item_and x xs) = put_last (mirror xs) (mirror_item x)
