-- Where a match may begin: what its first byte may be.
use Rattle.std.specs.Prelude.{◌≡◌, ℕ, ◌<◌, ◌≤◌, ◌==◌, ◌&&◌, ◌||◌, List, Bool, true, false, Some, length, slice_get}
use Rattle.std.proofs.Props.{props}
use Rattle.rk_base.specs.Text.{Text}
use Rattle.ut_bre.specs.declared.tree.Item.{Item}
use Rattle.ut_bre.specs.Trees.{meets, ItemTree, one, group, ItemsTree, no_items, item_and, trees_of}

-- Whether what an item matches, and what comes behind it, may begin with a byte; whether what comes behind may is told first.
abbrev mutual
  pub starts_item : ItemTree → Bool → ℕ → Bool
  starts_item (one times what) behind b = ((times.least == 0) && behind) || meets what b
  starts_item (group times number body) behind b = ((times.least == 0) && behind) || starts body behind b

  pub starts : ItemsTree → Bool → ℕ → Bool
  starts no_items behind b = behind
  starts (item_and x xs) behind b = starts_item x (starts xs behind b) b

-- A table tells of each byte whether a match of items may begin with it; of each, where they may match nothing.
abbrev pub IsTold : List Item → List Bool → Type 0
IsTold items table = (b : ℕ) → b < length table → slice_get table b ≡ Some (starts (trees_of items) true b)

pub IsTold-prop : (items : List Item) (table : List Bool) → IsProp (IsTold items table)
IsTold-prop items table = hlevel props

-- the byte at a place is one that a table leaves out
abbrev pub IsOut : List Bool → Text → ℕ → Type 0
IsOut table line k = (b : ℕ) → slice_get line k ≡ Some b → slice_get table b ≡ Some false

-- so each byte from one place up to another
abbrev pub AreOut : List Bool → Text → ℕ → ℕ → Type 0
AreOut table line from to = (k : ℕ) → from ≤ k → k < to → IsOut table line k
