-- What is true of each tree.
use Rattle.std.specs.Prelude.{◌≡◌, ℕ, true, Some, None}
use Rattle.rk_base.specs.Text.{Text, root, parent, join, hidden, is_within}
use Rattle.rk_base.specs.Canonical.{is_canonical}
use Rattle.rk_tree.specs.Entries.{is_dir, IsFit}
use Rattle.rk_tree.specs.Hierarchy.{Hierarchy, top, node, number_at}
use Rattle.rk_tree.specs.Node.{Node}

-- a path stands in a directory, by its parent's path
pub record IsPlaced (tree : Hierarchy) (path : Text) : Type 0 where
  pub up : ℕ
  pub stands : number_at tree (parent path) ≡ Some up
  pub in_dir : is_dir (node tree up) ≡ true

pub record IsWhole (tree : Hierarchy) : Type 0 where
  -- the root is a directory
  pub root_at : number_at tree root ≡ Some top
  pub root_dir : is_dir (node tree top) ≡ true
  -- each path is a canonical text, has a node and stands in a directory
  pub canonical : (path : Text) (n : ℕ) → number_at tree path ≡ Some n → is_canonical path ≡ true
  pub known : (path : Text) (n : ℕ) → number_at tree path ≡ Some n → (it : Node) × (node tree n ≡ Some it)
  pub placed : (path : Text) (n : ℕ) → number_at tree path ≡ Some n → IsPlaced tree path
  -- a directory has one path at most
  pub once : (a b : Text) (n : ℕ) → number_at tree a ≡ Some n → number_at tree b ≡ Some n → is_dir (node tree n) ≡ true → a ≡ b
  -- nothing stands at the hidden name or below it
  pub unseen : (path : Text) → is_within (join root hidden) path ≡ true → number_at tree path ≡ None
  -- modes and link texts
  pub fit : (n : ℕ) (it : Node) → node tree n ≡ Some it → IsFit it

-- a directory in which this name may stand for something
pub record MayHold (tree : Hierarchy) (dir : ℕ) (name : Text) : Type 0 where
  pub in_dir : is_dir (node tree dir) ≡ true
  pub seen : dir ≡ top → name ≡ hidden → ⊥
