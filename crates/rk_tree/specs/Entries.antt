-- What stands at each path.
use Rattle.std.specs.Prelude.{◌≡◌, ◌≢◌, ◌≤◌, [], Bool, true, false, Option, Some, None}
use Rattle.std.specs.FinMap.{FinMap, get}
use Rattle.rk_base.specs.Text.{Text, text_cmp, root, parent, join, hidden, is_within}
use Rattle.rk_base.specs.Canonical.{has_nul, is_canonical}
use Rattle.rk_base.specs.declared.file_type.FileType.{FileType}
use Rattle.rk_base.specs.declared.file_type.FileType.TheVariants as kind
use Rattle.rk_tree.specs.declared.entry.Entry.{Entry}
use Rattle.rk_tree.specs.declared.entry.Entry.TheVariants as entry
use Rattle.rk_tree.specs.Node.{Node, File, Dir, Link}

-- the node that an entry is
abbrev pub node_of : Entry → Node
node_of (entry.File mode content) = File mode content
node_of (entry.Dir mode) = Dir mode
node_of (entry.Link text) = Link text

-- a finite map from paths to what stands there
abbrev pub Entries : Type 0
Entries = FinMap text_cmp Node

abbrev pub kind_of : Node → FileType
kind_of (File mode content) = kind.File
kind_of (Dir mode) = kind.Dir
kind_of (Link text) = kind.Link

abbrev pub is_dir : Option Node → Bool
is_dir None = false
is_dir (Some (File mode content)) = false
is_dir (Some (Dir mode)) = true
is_dir (Some (Link text)) = false

-- a mode is at most 0777, and a link's text is not empty and has no NUL
abbrev pub IsFit : Node → Type 0
IsFit (File mode content) = mode ≤ 511
IsFit (Dir mode) = mode ≤ 511
IsFit (Link text) = (text ≢ []) × (has_nul text ≡ false)

-- what a whole tree shows
pub record IsWholeSnapshot (snapshot : Entries) : Type 0 where
  -- the root is a directory
  pub root_dir : is_dir (get snapshot root) ≡ true
  -- each path is a canonical text and stands in a directory
  pub canonical : (path : Text) (it : Node) → get snapshot path ≡ Some it → is_canonical path ≡ true
  pub placed : (path : Text) (it : Node) → get snapshot path ≡ Some it → is_dir (get snapshot (parent path)) ≡ true
  -- nothing stands at the hidden name or below it
  pub unseen : (path : Text) → is_within (join root hidden) path ≡ true → get snapshot path ≡ None
  pub fit : (path : Text) (it : Node) → get snapshot path ≡ Some it → IsFit it
