-- The kernel's world, with names for all that stands in it, and what its cells hold.
use Rattle.std.proofs.Common.{◌≡◌, ℕ, ◌<◌, List, [], Bool, true, false, ◌&&◌, ◌==◌, if◌then◌else◌, length, Option, Some, None}
use Rattle.std.specs.Prelude.{slice_get}
use Rattle.std.specs.FinMap.{keys}
use Rattle.rk_base.specs.Text.{Text, same_text}
use Rattle.rk_tree.specs.declared.inode.Inode.{Inode}
use Rattle.rk_tree.specs.Node.{Node as TreeNode}
use Rattle.rk_tree.specs.Hierarchy.{Hierarchy, node as node_at, top as top_at, mode_of, file_bytes}
use Rattle.rk_tree.specs.Inodes.{under, names_in, place_in}
use Rattle.rk_tree.specs.Entries.{is_dir}
use Rattle.rk_tree.proofs.TreeLemmas.{IsTree}
use Rattle.rk_kernel.specs.World as kernel
use Rattle.rk_kernel.specs.World.{text_of}
use Rattle.rk_kernel.specs.declared.description.Description as opening
use Rattle.rk_kernel.specs.declared.description.Source as reading
use Rattle.rk_kernel.specs.declared.description.Source.TheVariants as source
use Rattle.rk_waves.specs.Programs.{Cell, One, All}
use Rattle.rk_feet.specs.Named.{Name, Made, What, File, Dir, Link, Node, Source, Of, Pipe, Output, Error, Nothing, Description, Plain, EntryOf, AboveOf}
use Rattle.rk_feet.specs.Named.{ModeOf, BytesOf, OpenOf, PipeOf, OutputText, ErrorText, Used, Value, Entry, Above, Mode, Bytes, Opened, Names, Flag}
use Rattle.rk_feet.specs.Named.{given_mode, top}
use Rattle.rk_feet.specs.Naming.{Naming, AreNamed, same_name}
use Rattle.rk_feet.specs.Course.{what_of}

abbrev pub is_file_what : What → Bool
is_file_what File = true
is_file_what Dir = false
is_file_what (Link text) = false

abbrev pub is_file : Option TreeNode → Bool
is_file o = is_file_what (what_of o)

-- what is read or written stands in the world
abbrev pub IsSource : Hierarchy → List Text → reading.Source → Type 0
IsSource tree pipes (source.Node n) = is_file (node_at tree n) ≡ true
IsSource tree pipes (source.Pipe p) = p < length pipes
IsSource tree pipes source.Output = Unit {0}
IsSource tree pipes source.ErrorText = Unit {0}
IsSource tree pipes source.Nothing = Unit {0}

-- and what is read doesn't append
pub record IsOpen (tree : Hierarchy) (pipes : List Text) (d : opening.Description) : Type 0 where
  pub stands : IsSource tree pipes d.source
  pub plain : d.read ≡ true → d.append ≡ false

pub record World : Type 0 where
  pub held : kernel.World
  -- the nodes as the code keeps them
  pub inodes : List Inode
  pub tree : IsTree inodes held.tree
  pub nodes : Naming
  pub opens : Naming
  pub pipes : Naming
  -- the steps that have made something
  pub used : ℕ → ℕ → Bool
  pub nodes_named : AreNamed (length inodes) nodes
  pub opens_named : AreNamed (length held.opens) opens
  pub pipes_named : AreNamed (length held.pipes) pipes
  pub top_is : nodes.name_of top_at ≡ top
  pub are_open : (k : ℕ) (d : opening.Description) → slice_get held.opens k ≡ Some d → IsOpen held.tree held.pipes d
  -- what a step makes has no name before
  pub unused : (r s p m : ℕ) → used r s ≡ false
      → (nodes.number_of (Made r s p m) ≡ None) × (opens.number_of (Made r s p m) ≡ None) × (pipes.number_of (Made r s p m) ≡ None)

module _ (w : World) where
  abbrev pub node_named : ℕ → Node
  node_named n = record { name = w.nodes.name_of n; what = what_of (node_at w.held.tree n) }

  abbrev pub entry_named : Option ℕ → Option Node
  entry_named None = None
  entry_named (Some n) = Some (node_named n)

  abbrev pub up_named : Option (ℕ × Text) → Option (Name × Text)
  up_named None = None
  up_named (Some up) = Some (w.nodes.name_of up.0, up.1)

  abbrev pub source_named : reading.Source → Source
  source_named (source.Node n) = Of (w.nodes.name_of n)
  source_named (source.Pipe p) = Pipe (w.pipes.name_of p)
  source_named source.Output = Output
  source_named source.ErrorText = Error
  source_named source.Nothing = Nothing

  -- nobody sees an offset where it appends
  abbrev pub description_named : opening.Description → Description
  description_named d = record { source = source_named d.source; offset = if d.append then 0 else d.offset; read = d.read; write = d.write; append = d.append }

  abbrev pub opened_named : Option opening.Description → Option Description
  opened_named None = None
  opened_named (Some d) = Some (description_named d)

  -- by numbers

  abbrev pub entry_in : Text → Option ℕ → Option Node
  entry_in name None = None
  entry_in name (Some d) = entry_named (under w.inodes d name)

  -- the root stands in itself
  abbrev pub above_in : Option ℕ → Option (Name × Text)
  above_in None = None
  above_in (Some d) = if d == top_at then Some (top, []) else if is_dir (node_at w.held.tree d) then up_named (place_in (slice_get w.inodes d)) else None

  abbrev pub mode_in : Name → Option ℕ → ℕ
  mode_in name None = given_mode name
  mode_in name (Some n) = mode_of (node_at w.held.tree n)

  abbrev pub bytes_in : Option ℕ → Text
  bytes_in None = []
  bytes_in (Some n) = file_bytes (node_at w.held.tree n)

  abbrev pub opened_in : Option ℕ → Option Description
  opened_in None = None
  opened_in (Some k) = opened_named (slice_get w.held.opens k)

  abbrev pub pipe_in : Option ℕ → Text
  pipe_in None = []
  pipe_in (Some p) = text_of (slice_get w.held.pipes p)

  abbrev pub names_under : Option ℕ → List Text
  names_under None = []
  names_under (Some d) = keys (names_in (slice_get w.inodes d))

  -- by names
  abbrev pub at : Cell Plain Name → Value
  at (One (EntryOf dir name)) = Entry (entry_in name (w.nodes.number_of dir))
  at (One (AboveOf dir)) = Above (above_in (w.nodes.number_of dir))
  at (One (ModeOf n)) = Mode (mode_in n (w.nodes.number_of n))
  at (One (BytesOf n)) = Bytes (bytes_in (w.nodes.number_of n))
  at (One (OpenOf k)) = Opened (opened_in (w.opens.number_of k))
  at (One (PipeOf p)) = Bytes (pipe_in (w.pipes.number_of p))
  at (One OutputText) = Bytes w.held.out
  at (One ErrorText) = Bytes w.held.err
  at (One (Used r s)) = Flag (w.used r s)
  at (All dir) = Names (names_under (w.nodes.number_of dir))

-- Cells.

abbrev pub is_plain : Plain → Plain → Bool
is_plain (EntryOf d a) (EntryOf e b) = same_name d e && same_text a b
is_plain (AboveOf d) (AboveOf e) = same_name d e
is_plain (ModeOf d) (ModeOf e) = same_name d e
is_plain (BytesOf d) (BytesOf e) = same_name d e
is_plain (OpenOf d) (OpenOf e) = same_name d e
is_plain (PipeOf d) (PipeOf e) = same_name d e
is_plain OutputText OutputText = true
is_plain ErrorText ErrorText = true
is_plain (Used r s) (Used t u) = (r == t) && (s == u)
is_plain _ _ = false

abbrev pub group_of : Plain → Option Name
group_of (EntryOf d name) = Some d
group_of (AboveOf d) = None
group_of (ModeOf d) = None
group_of (BytesOf d) = None
group_of (OpenOf d) = None
group_of (PipeOf d) = None
group_of OutputText = None
group_of ErrorText = None
group_of (Used r s) = None
