-- Changes of one node: the bytes of a file, or a mode.
use Rattle.std.proofs.Common.{◌≡◌, inl, inr, ℕ, List, [], ◌∷◌, length, Bool, true, false, Option, Some, None, refl, sym, ◌∙◌, ap, ap₂, subst}
use Rattle.std.specs.Prelude.{◌==◌, if◌then◌else◌, slice_get}
use Rattle.std.specs.Option.{option_map}
use Rattle.std.proofs.lemmas.Option.{slice_get_within}
use Rattle.rk_base.specs.Text.{Text}
use Rattle.rk_tree.specs.declared.inode.Inode.{Inode}
use Rattle.rk_tree.specs.Entries.{is_dir, IsFit}
use Rattle.rk_tree.specs.Hierarchy.{Hierarchy, node as node_at, top as top_at, mode_of, file_bytes, change_node, changed_at}
use Rattle.rk_tree.specs.Inodes.{under, change, changed_at as inode_changed_at, as_node}
use Rattle.rk_tree.specs.Node.{Node as TreeNode}
use Rattle.rk_tree.proofs.ChangedLemmas.{apart_or, under-change, place-change}
use Rattle.rk_tree.proofs.ReplacedLemmas.{entry-tree}
use Rattle.rk_kernel.specs.declared.description.Source as reading
use Rattle.rk_kernel.specs.declared.description.Source.TheVariants as source
use Rattle.rk_waves.specs.Programs.{One, Update, updated, written}
use Rattle.rk_feet.specs.Named.{Name, Plain, EntryOf, AboveOf, ModeOf, BytesOf, OpenOf, PipeOf, OutputText, ErrorText, Used, Value, Entry, Above, Mode, Bytes}
use Rattle.rk_feet.specs.Named.{top}
use Rattle.rk_feet.specs.Naming.{same_name, AreNamed}
use Rattle.rk_feet.specs.Course.{what_of}
use Rattle.rk_feet.specs.World.{World, at, IsSource, is_file, is_file_what, entry_named, entry_in, up_named, above_in, mode_in, bytes_in}
use Rattle.rk_feet.specs.Simulates.{Becomes}
use Rattle.rk_feet.specs.CellLemmas.{cells}
use Rattle.rk_feet.specs.NamingLemmas.{named-set, name-is}
use Rattle.rk_feet.proofs.OpenLemmas.{length-set, get-same, get-other}

changed-same : (f : TreeNode → TreeNode) (xs : List TreeNode) (n : ℕ) (o : Option TreeNode) → slice_get xs n ≡ o
    → slice_get (changed_at f xs n o) n ≡ option_map f o
changed-same f xs n None is = is
changed-same f xs n (Some it) is = get-same xs n (f it) (slice_get_within xs n it is)

changed-other : (f : TreeNode → TreeNode) (xs : List TreeNode) (n : ℕ) (o : Option TreeNode) (j : ℕ) → (j ≡ n → ⊥)
    → slice_get (changed_at f xs n o) j ≡ slice_get xs j
changed-other f xs n None j apart = refl
changed-other f xs n (Some it) j apart = get-other xs n j (f it) apart

length-changed : (f : Inode → Inode) (xs : List Inode) (n : ℕ) (o : Option Inode) → length (inode_changed_at f xs n o) ≡ length xs
length-changed f xs n None = refl
length-changed f xs n (Some it) = length-set xs n (f it)

pub length-change : (f : Inode → Inode) (xs : List Inode) (n : ℕ) → length (change f xs n) ≡ length xs
length-change f xs n = length-changed f xs n (slice_get xs n)

-- what a change of a node keeps of it
pub record KeepsKind (f : TreeNode → TreeNode) : Type 0 where
  pub dir : (it : TreeNode) → is_dir (Some (f it)) ≡ is_dir (Some it)
  pub fit : (it : TreeNode) → IsFit it → IsFit (f it)
  pub what : (it : TreeNode) → what_of (Some (f it)) ≡ what_of (Some it)

module _ (w : World) (k : Name) (n : ℕ) (at_n : w.nodes.number_of k ≡ Some n) (f : TreeNode → TreeNode) (keeps : KeepsKind f) where
  abbrev pub now : Hierarchy
  now = change_node w.held.tree n f

  pub node-same : node_at now n ≡ option_map f (node_at w.held.tree n)
  node-same = changed-same f w.held.tree.nodes n (node_at w.held.tree n) refl

  pub node-other : (j : ℕ) → (j ≡ n → ⊥) → node_at now j ≡ node_at w.held.tree j
  node-other j apart = changed-other f w.held.tree.nodes n (node_at w.held.tree n) j apart

  pub kept : {V : Type 0} (see : Option TreeNode → V) → ((it : TreeNode) → see (Some (f it)) ≡ see (Some it)) → (m : ℕ)
      → see (node_at now m) ≡ see (node_at w.held.tree m)
  kept see same m = elim (apart_or m n) [
    | inl is ↦ ap (λ j. see (node_at now j)) is ∙ ap see node-same ∙ mapped (node_at w.held.tree n) ∙ ap (λ j. see (node_at w.held.tree j)) (sym is)
    | inr apart ↦ ap see (node-other m apart)
  ] where
    mapped : (o : Option TreeNode) → see (option_map f o) ≡ see o
    mapped None = refl
    mapped (Some it) = same it

  pub sources-kept : (s : reading.Source) → IsSource w.held.tree w.held.pipes s → IsSource now w.held.pipes s
  sources-kept (source.Node m) h = kept is_file (λ it. ap is_file_what (keeps.what it)) m ∙ h
  sources-kept (source.Pipe p) h = h
  sources-kept source.Output h = h
  sources-kept source.ErrorText h = h
  sources-kept source.Nothing h = h

  abbrev pub next : World
  next = record w {
    held = record w.held { tree = now };
    inodes = change (as_node f) w.inodes n;
    tree = entry-tree w.inodes w.held.tree f n w.tree keeps.dir keeps.fit;
    nodes_named = subst (λ c. AreNamed c w.nodes) (sym (length-change (as_node f) w.inodes n)) w.nodes_named;
    are_open = λ j d e. record { stands = sources-kept d.source (w.are_open j d e).stands; plain = (w.are_open j d e).plain };
  }

  pub entry-kept : (name : Text) (o : Option ℕ) → entry_in next name o ≡ entry_in w name o
  entry-kept name None = refl
  entry-kept name (Some d) = ap (entry_named next) (under-change (as_node f) w.inodes n d name (λ it. refl)) ∙ go (under w.inodes d name)
    where
      go : (o : Option ℕ) → entry_named next o ≡ entry_named w o
      go None = refl
      go (Some m) = ap (λ x. Some (record { name = w.nodes.name_of m; what = x })) (kept what_of keeps.what m)

  pub above-kept : (o : Option ℕ) → above_in next o ≡ above_in w o
  above-kept None = refl
  above-kept (Some d) =
      ap₂ (λ b place. if d == top_at then Some (top, []) else if b then up_named w place else None)
      (kept is_dir keeps.dir d) (place-change (as_node f) w.inodes n d (λ it. refl))

  -- the bytes of a file
  abbrev pub set-bytes :
      ((it : TreeNode) → mode_of (Some (f it)) ≡ mode_of (Some it)) → (u : Update Value)
      → Bytes (file_bytes (option_map f (node_at w.held.tree n))) ≡ updated u (Bytes (file_bytes (node_at w.held.tree n)))
      → Becomes w (record w.held { tree = now }) ((BytesOf k, u) ∷ [])
  set-bytes modes u says = record { next = next; is = refl; holds = holds; lasts = record { nodes = λ x n e. e; opens = λ x n e. e; pipes = λ x n e. e } }
    where
      choose : (q : Name) (b : Bool) → same_name k q ≡ b
          → (if b then Bytes (file_bytes (option_map f (node_at w.held.tree n))) else at w (One (BytesOf q)))
          ≡ (if b then updated u (at w (One (BytesOf q))) else at w (One (BytesOf q)))
      choose q true e = says ∙ ap (λ o. updated u (Bytes (bytes_in w o))) (sym at_n ∙ ap w.nodes.number_of (name-is k q e))
      choose q false e = refl

      mode-kept : (q : Name) (o : Option ℕ) → mode_in next q o ≡ mode_in w q o
      mode-kept q None = refl
      mode-kept q (Some m) = kept mode_of modes m

      holds : (p : Plain) → at next (One p) ≡ written cells ((BytesOf k, u) ∷ []) p (at w (One p))
      holds (EntryOf x y) = ap Entry (entry-kept y (w.nodes.number_of x))
      holds (AboveOf x) = ap Above (above-kept (w.nodes.number_of x))
      holds (ModeOf x) = ap Mode (mode-kept x (w.nodes.number_of x))
      holds (BytesOf x) =
          named-set (length w.inodes) w.nodes w.nodes_named k n at_n (λ o. Bytes (bytes_in w o)) (λ o. Bytes (bytes_in next o))
          (Bytes (file_bytes (option_map f (node_at w.held.tree n))))
          (ap (λ o. Bytes (file_bytes o)) node-same) (λ j apart. ap (λ o. Bytes (file_bytes o)) (node-other j apart)) refl x
          ∙ choose x (same_name k x) refl
      holds (OpenOf x) = refl
      holds (PipeOf x) = refl
      holds OutputText = refl
      holds ErrorText = refl
      holds (Used r s) = refl

  -- the mode
  abbrev pub set-mode :
      ((it : TreeNode) → file_bytes (Some (f it)) ≡ file_bytes (Some it)) → (u : Update Value)
      → Mode (mode_of (option_map f (node_at w.held.tree n))) ≡ updated u (Mode (mode_of (node_at w.held.tree n)))
      → Becomes w (record w.held { tree = now }) ((ModeOf k, u) ∷ [])
  set-mode bytes u says = record { next = next; is = refl; holds = holds; lasts = record { nodes = λ x n e. e; opens = λ x n e. e; pipes = λ x n e. e } }
    where
      choose : (q : Name) (b : Bool) → same_name k q ≡ b
          → (if b then Mode (mode_of (option_map f (node_at w.held.tree n))) else at w (One (ModeOf q)))
          ≡ (if b then updated u (at w (One (ModeOf q))) else at w (One (ModeOf q)))
      choose q true e = says ∙ ap (λ o. updated u (Mode (mode_in w q o))) (sym at_n ∙ ap w.nodes.number_of (name-is k q e))
      choose q false e = refl

      bytes-kept : (o : Option ℕ) → bytes_in next o ≡ bytes_in w o
      bytes-kept None = refl
      bytes-kept (Some m) = kept file_bytes bytes m

      holds : (p : Plain) → at next (One p) ≡ written cells ((ModeOf k, u) ∷ []) p (at w (One p))
      holds (EntryOf x y) = ap Entry (entry-kept y (w.nodes.number_of x))
      holds (AboveOf x) = ap Above (above-kept (w.nodes.number_of x))
      holds (ModeOf x) =
          named-set (length w.inodes) w.nodes w.nodes_named k n at_n (λ o. Mode (mode_in w x o)) (λ o. Mode (mode_in next x o))
          (Mode (mode_of (option_map f (node_at w.held.tree n))))
          (ap (λ o. Mode (mode_of o)) node-same) (λ j apart. ap (λ o. Mode (mode_of o)) (node-other j apart)) refl x
          ∙ choose x (same_name k x) refl
      holds (BytesOf x) = ap Bytes (bytes-kept (w.nodes.number_of x))
      holds (OpenOf x) = refl
      holds (PipeOf x) = refl
      holds OutputText = refl
      holds ErrorText = refl
      holds (Used r s) = refl
