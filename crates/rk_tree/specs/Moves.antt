-- What the code needs to know of a path, all within which goes to another place.
use Rattle.std.specs.Prelude.{◌≡◌, ℕ, true, false, Some, None}
use Rattle.rk_base.specs.Text.{Text, is_root, root, parent, join, hidden, is_within}
use Rattle.rk_base.specs.Canonical.{is_canonical}
use Rattle.rk_tree.specs.Entries.{is_dir}
use Rattle.rk_tree.specs.Hierarchy.{Hierarchy, node, number_at}
use Rattle.rk_tree.specs.Whole.{IsPlaced}

-- nothing stands below a path
abbrev pub IsBare : Hierarchy → Text → Type 0
IsBare tree path = (q : Text) → is_within path q ≡ true → (q ≡ path → ⊥) → number_at tree q ≡ None

-- the node n goes from a path below the root to another one
pub record Moves (tree : Hierarchy) (from to : Text) (n : ℕ) : Type 0 where
  pub stands : number_at tree from ≡ Some n
  pub from_below : is_root from ≡ false
  pub to_below : is_root to ≡ false
  pub to_is : is_canonical to ≡ true
  -- the new place isn't within the old one, and stands in a directory
  pub outside : is_within from to ≡ false
  pub placed : IsPlaced tree to
  pub apart : parent to ≡ to → ⊥
  pub seen : is_within (join root hidden) to ≡ false
  -- nothing stands below the new place, and at it at most what may be replaced
  pub bare : IsBare tree to
  pub alike : (m : ℕ) → number_at tree to ≡ Some m → is_dir (node tree m) ≡ is_dir (node tree n)
