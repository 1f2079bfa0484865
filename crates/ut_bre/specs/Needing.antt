-- A byte that each match holds.
use Rattle.std.specs.Prelude.{◌≡◌, ℕ, ◌<◌, ◌≤◌, ◌==◌, Option, Some, None, slice_get, if◌then◌else◌}
use Rattle.rk_base.specs.Text.{Text}
use Rattle.ut_bre.specs.Trees.{ItemTree, one, group, ItemsTree, no_items, item_and, Expression}
use Rattle.ut_bre.specs.Matching.{Matches}
use Rattle.ut_bre.specs.Running.{byte_of}
use Rattle.ut_bre.specs.Found.{span_found}

-- of two bytes the later one, where there is one
abbrev pub later : Option ℕ → Option ℕ → Option ℕ
later a None = a
later a (Some b) = Some b

abbrev mutual
  -- the last plain byte that an item needs
  pub needed_item : ItemTree → Option ℕ
  needed_item (one times what) = byte_of times.least what
  needed_item (group times number body) = if times.least == 0 then None else needed_from None body

  -- the last one that these items need, or else this one
  pub needed_from : Option ℕ → ItemsTree → Option ℕ
  needed_from found no_items = found
  needed_from found (item_and x xs) = needed_from (later found (needed_item x)) xs

abbrev pub needed : ItemsTree → Option ℕ
needed = needed_from None

-- the byte stands in a line from one place on and before another
abbrev pub StandsIn : Text → ℕ → ℕ → ℕ → Type 0
StandsIn line b i j = (k : ℕ) × (i ≤ k) × (k < j) × (slice_get line k ≡ Some b)

-- each match holds the byte
abbrev pub IsHeld : Expression → ℕ → Type 0
IsHeld e b = (line : Text) (i j : ℕ) → Matches e line i j → StandsIn line b i j

-- a text has no such byte
abbrev pub Lacks : Text → ℕ → Type 0
Lacks text b = (k : ℕ) → slice_get text k ≡ Some b → ⊥

-- nothing is found in a line without the byte
abbrev pub IsNeeded : Expression → ℕ → Type 0
IsNeeded e b = (line : Text) (from : ℕ) → Lacks line b → span_found e line from ≡ None
