-- Cells that show a tree, and that the program of a path ends as the path leads there.
use Rattle.std.specs.Prelude.{◌≡◌, ℕ, Bool, true, ◌==◌, Option, Some, None, Ok, Err}
use Rattle.rk_base.specs.Text.{Text}
use Rattle.rk_tree.specs.Entries.{is_dir}
use Rattle.rk_tree.specs.Hierarchy.{Hierarchy, node as node_at, top as top_at, mode_of, child, parent_of}
use Rattle.rk_tree.specs.Node.{Node as TreeNode, File as AFile, Dir as ADir, Link as ALink}
use Rattle.rk_tree.specs.Whole.{IsWhole}
use Rattle.rk_walk.specs.Walk.{Spot}
use Rattle.rk_walk.specs.Walk as tree
use Rattle.rk_walk.specs.declared.place.Here.{Here as TreeHere}
use Rattle.rk_walk.specs.declared.place.Place.TheVariants as place
use Rattle.rk_waves.specs.Programs.{Cell, One, end_of}
use Rattle.rk_feet.specs.Checks.{no, row}
use Rattle.rk_feet.specs.Named.{Name, What, File, Dir, Link, Node, Plain, EntryOf, AboveOf, ModeOf, Value, Entry, Mode, above, Does, top}
use Rattle.rk_feet.specs.Ways.{Here, Place, Found, Absent, is_top, resolve}

abbrev pub what_of : Option TreeNode → What
what_of None = Dir
what_of (Some (AFile mode bytes)) = File
what_of (Some (ADir mode)) = Dir
what_of (Some (ALink text)) = Link text

module _ (held : Hierarchy) (at : Cell Plain Name → Value) (name_of : ℕ → Name) where
  abbrev pub named : ℕ → Node
  named n = record { name = name_of n; what = what_of (node_at held n) }

  abbrev pub entry : Option ℕ → Option Node
  entry None = None
  entry (Some n) = Some (named n)

  abbrev pub up_named : Option (ℕ × Text) → Option (Name × Text)
  up_named None = None
  up_named (Some up) = Some (name_of up.0, up.1)

  abbrev pub here_named : TreeHere → Here
  here_named here = record { node = named here.node; up = up_named here.up; slash = here.slash }

  -- what stands above a directory
  abbrev pub IsUp : Option ℕ → Value → Type 0
  IsUp None x = above x ≡ None
  IsUp (Some m) x = (is_dir (node_at held m) ≡ true) × (name : Text) × (above x ≡ Some (name_of m, name))

  -- the cells show the tree
  pub record Shows : Type 0 where
    pub top_is : name_of top_at ≡ top
    pub top_dir : is_dir (node_at held top_at) ≡ true
    pub tops : (n : ℕ) → is_dir (node_at held n) ≡ true → is_top (name_of n) ≡ (n == top_at)
    pub modes : (n : ℕ) → is_dir (node_at held n) ≡ true → at (One (ModeOf (name_of n))) ≡ Mode (mode_of (node_at held n))
    pub entries : (n : ℕ) (name : Text) → is_dir (node_at held n) ≡ true → at (One (EntryOf (name_of n) name)) ≡ Entry (entry (child held n name))
    pub stand : (n m : ℕ) (name : Text) → child held n name ≡ Some m → (it : TreeNode) × (node_at held m ≡ Some it)
    pub ups : (n : ℕ) → is_dir (node_at held n) ≡ true → IsUp (parent_of held n) (at (One (AboveOf (name_of n))))

  -- what is made of where a path leads
  abbrev pub made_of : (Place → Does) → Spot → Does
  made_of make (Err e) = no e
  made_of make (Ok (place.Found here)) = make (Found (here_named here))
  made_of make (Ok (place.Absent dir name slash)) = make (Absent (name_of dir) name slash)

-- over any whole tree that cells show by any names, a path's program ends as what is made of where the path leads
abbrev pub LeadsAlike : Type 0
LeadsAlike =
    (held : Hierarchy) (at : Cell Plain Name → Value) (name_of : ℕ → Name) → Shows held at name_of → IsWhole held
    → (make : Place → Does) (path : Text) (follow : Bool)
    → end_of at (resolve (row make) follow path) ≡ end_of at (made_of held at name_of make (tree.resolve held path follow))
