-- What is known of a place in a whole tree.
use Rattle.std.specs.Prelude.{◌≡◌, ℕ, true, Option, Some, None}
use Rattle.rk_base.specs.Text.{Text}
use Rattle.rk_base.specs.Canonical.{is_name}
use Rattle.rk_tree.specs.Entries.{is_dir}
use Rattle.rk_tree.specs.Hierarchy.{Hierarchy, node, child}
use Rattle.rk_tree.specs.Refusals.{is_there}
use Rattle.rk_tree.specs.Whole.{MayHold}
use Rattle.rk_walk.specs.declared.place.Place.{Place}
use Rattle.rk_walk.specs.declared.place.Place.TheVariants.{Found, Absent}

-- a name under which this node stands in a directory
pub record IsNameOf (tree : Hierarchy) (n dir : ℕ) (name : Text) : Type 0 where
  pub holds : MayHold tree dir name
  pub named : is_name name ≡ true
  pub there : is_there (node tree n) ≡ true
  pub child_is : child tree dir name ≡ Some n

-- a name under which a node may come to stand
pub record IsFreeName (tree : Hierarchy) (dir : ℕ) (name : Text) : Type 0 where
  pub holds : MayHold tree dir name
  pub named : is_name name ≡ true
  pub absent : child tree dir name ≡ None

-- a node that was found under no name is a directory
abbrev pub StandsUnder : Hierarchy → ℕ → Option (ℕ × Text) → Type 0
StandsUnder tree n None = is_dir (node tree n) ≡ true
StandsUnder tree n (Some up) = IsNameOf tree n up.0 up.1

pub record IsFound (tree : Hierarchy) (n : ℕ) (up : Option (ℕ × Text)) : Type 0 where
  pub there : is_there (node tree n) ≡ true
  pub under : StandsUnder tree n up

abbrev pub IsPlaceOf : Hierarchy → Place → Type 0
IsPlaceOf tree (Found here) = IsFound tree here.node here.up
IsPlaceOf tree (Absent dir name slash) = IsFreeName tree dir name
