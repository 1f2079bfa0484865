-- Worlds at the start of a run, and at its end.
use Rattle.std.specs.Prelude.{◌≡◌, ℕ, ◌<◌, false, Option, Some, None}
use Rattle.rk_base.specs.Text.{Text}
use Rattle.rk_tree.specs.Copies.{snapshot_of, tree_of}
use Rattle.rk_tree.specs.Entries.{Entries, IsWholeSnapshot}
use Rattle.rk_tree.specs.Full.{own}
use Rattle.rk_tree.specs.Hierarchy.{Hierarchy, number_at, path_of}
use Rattle.rk_kernel.specs.World.{fresh_world}
use Rattle.rk_waves.specs.Programs.{Cell}
use Rattle.rk_feet.specs.Named.{Name, Start, Given, Made, Plain}
use Rattle.rk_feet.specs.Naming.{Naming}
use Rattle.rk_feet.specs.World.{World, at}

-- The start.

abbrev pub named_by : Option Text → Name
named_by None = Given 0
named_by (Some path) = Start path

abbrev pub number_by : Hierarchy → Name → Option ℕ
number_by tree (Start path) = number_at tree path
number_by tree (Given number) = None
number_by tree (Made command step part mode) = None

-- the nodes of a tree by their paths
abbrev pub by_paths : Hierarchy → Naming
by_paths tree = record { name_of = λ n. named_by (path_of tree n); number_of = number_by tree }

-- a world in which nothing has run, whose nodes are named by the paths of a snapshot
pub record IsStart (snapshot : Entries) (w : World) : Type 0 where
  pub fresh : w.held ≡ fresh_world snapshot
  pub named : w.nodes ≡ by_paths (tree_of snapshot)
  -- the empty input, the output and the error text
  pub given : (number : ℕ) → number < 3 → w.opens.number_of (Given number) ≡ Some number
  pub nothing_made : (command step : ℕ) → w.used command step ≡ false

abbrev pub StartsByPaths : Type 0
StartsByPaths = (snapshot : Entries) → IsWholeSnapshot snapshot → (w : World) × IsStart snapshot w

-- The end.

-- what is seen of a world in the end: its texts, and what stands at each path, each file with the bytes that are known
pub record IsSeenAs (w v : World) : Type 0 where
  pub out : w.held.out ≡ v.held.out
  pub err : w.held.err ≡ v.held.err
  pub snapshot : own (snapshot_of w.held.tree) ≡ own (snapshot_of v.held.tree)

-- worlds that no cell tells apart are seen as one
abbrev pub AlikeSeenAsOne : Type 0
AlikeSeenAsOne = (w v : World) → ((c : Cell Plain Name) → at w c ≡ at v c) → IsSeenAs w v
