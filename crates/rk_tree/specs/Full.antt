-- Full: what a tree is, and what stands at paths, once each file whose bytes aren't known yet has them as they are told.
use Rattle.std.proofs.Common.{◌≡◌, ℕ, [], map, Bool, true, false, Option, Some, None}
use Rattle.std.specs.Coded.{Coded-set, coded_option, coded_list, coded_ℕ, Unit-prop}
use Rattle.std.specs.FinMap.{FinMap, empty, entries, get}
use mathlib.Core.HLevel.{⊥_prop, Π_prop}
use Rattle.rk_base.specs.Text.{Text, text_cmp}
use Rattle.rk_tree.specs.Content.{Content, Own, Unread, Read}
use Rattle.rk_tree.specs.Entries.{Entries}
use Rattle.rk_tree.specs.Hierarchy.{Hierarchy, held_in, node}
use Rattle.rk_tree.specs.Node.{Node, File, Dir, Link}
use Rattle.rk_tree.specs.Rows.{map_of}

-- the bytes at each import path
abbrev pub Told : Type 0
Told = FinMap text_cmp Text

abbrev pub bytes_at : Option Text → Text
bytes_at None = []
bytes_at (Some bytes) = bytes

-- what a file holds in full has no import path
abbrev pub full_content : Told → Content → Content
full_content told (Own bytes) = Own bytes
full_content told (Unread path) = Own (bytes_at (get told path))
full_content told (Read path bytes) = Own bytes

abbrev pub full_node : Told → Node → Node
full_node told (File mode content) = File mode (full_content told content)
full_node told (Dir mode) = Dir mode
full_node told (Link text) = Link text

abbrev pub in_full : Told → Option Node → Option Node
in_full told None = None
in_full told (Some it) = Some (full_node told it)

unfoldable pub full : Told → Hierarchy → Hierarchy
full told tree = record tree { nodes = map (full_node told) tree.nodes }

abbrev pub full_row : Told → Text × Node → Text × Node
full_row told row = (row.0, full_node told row.1)

unfoldable pub full_entries : Told → Entries → Entries
full_entries told snapshot = map_of (map (full_row told) (entries snapshot))

-- each file with the bytes that are known, as its own
abbrev pub own : Entries → Entries
own snapshot = full_entries empty snapshot

abbrev pub is_read : Content → Bool
is_read (Own bytes) = true
is_read (Unread path) = false
is_read (Read path bytes) = true

-- whether the bytes of a file are known
abbrev pub is_known : Option Node → Bool
is_known it = is_read (held_in it)

-- What was read is what is told, and what wasn't can be read.

abbrev pub IsThere : Option Text → Type 0
IsThere None = ⊥
IsThere (Some bytes) = Unit {0}

abbrev pub From : Told → Content → Type 0
From told (Own bytes) = Unit {0}
From told (Unread path) = IsThere (get told path)
From told (Read path bytes) = get told path ≡ Some bytes

-- of a tree, where the bytes are told
abbrev pub AreFrom : Option Told → Hierarchy → Type 0
AreFrom None tree = Unit {0}
AreFrom (Some told) tree = (n : ℕ) → From told (held_in (node tree n))

-- of what stands at paths
abbrev pub EntriesFrom : Option Told → Entries → Type 0
EntriesFrom None snapshot = Unit {0}
EntriesFrom (Some told) snapshot = (path : Text) → From told (held_in (get snapshot path))

-- and of that there is one proof

IsThere-prop : (o : Option Text) → IsProp (IsThere o)
IsThere-prop None = ⊥_prop
IsThere-prop (Some bytes) = Unit-prop

From-prop : (told : Told) (it : Content) → IsProp (From told it)
From-prop told (Own bytes) = Unit-prop
From-prop told (Unread path) = IsThere-prop (get told path)
From-prop told (Read path bytes) = Coded-set (coded_option (coded_list coded_ℕ)) _ _

pub AreFrom-prop : (o : Option Told) (tree : Hierarchy) → IsProp (AreFrom o tree)
AreFrom-prop None tree = Unit-prop
AreFrom-prop (Some told) tree = Π_prop (λ n. From-prop told (held_in (node tree n)))
