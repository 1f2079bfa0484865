-- Link: a name more for what stands.
use Rattle.std.proofs.Common.{◌≡◌, ℕ, List, [], ◌∷◌, length, Bool, true, false, ◌&&◌, Option, Some, None, refl, sym, ◌∙◌, ap, ap₂, subst}
use Rattle.std.specs.Prelude.{◌==◌, if◌then◌else◌, slice_get}
use Rattle.rk_base.specs.Text.{Text, same_text}
use Rattle.rk_base.proofs.WithinLemmas.{same_is, same_itself}
use Rattle.rk_base.specs.declared.errno.Errno.TheVariants.{NoEntry, Exists, Denied}
use Rattle.rk_calls.specs.Refs.{RefsHeld}
use Rattle.rk_calls.specs.declared.answer.Answer.TheVariants as answer
use Rattle.rk_tree.specs.declared.inode.Inode.{Inode}
use Rattle.rk_tree.specs.Entries.{is_dir}
use Rattle.rk_tree.specs.Hierarchy.{Hierarchy, node as node_at, top as top_at, linked, mode_of, file_bytes}
use Rattle.rk_tree.specs.Inodes.{under, change}
use Rattle.rk_tree.specs.Inodes.{with_name as with_child}
use Rattle.rk_tree.specs.Node.{Node as TreeNode, File as AFile, Dir as ADir, Link as ALink}
use Rattle.rk_tree.specs.Refusals.{is_there, lacks_w}
use Rattle.rk_tree.proofs.ChangedLemmas.{PutsUnder, puts_name, place-change}
use Rattle.rk_tree.proofs.GrownLemmas.{linked-tree}
use Rattle.rk_tree.proofs.TreeLemmas.{IsTree}
use Rattle.rk_tree.proofs.WholeLemmas.{dir_node}
use Rattle.rk_walk.specs.Places.{IsFreeName}
use Rattle.rk_walk.specs.Walk.{resolve as leads_to}
use Rattle.rk_walk.specs.declared.place.Here.{Here as TreeHere}
use Rattle.rk_walk.specs.declared.place.Place.TheVariants as place
use Rattle.rk_kernel.specs.World.{with_tree}
use Rattle.rk_kernel.specs.Rows.{unless, done, at_place, lacks_w_at}
use Rattle.rk_kernel.specs.Rows.{strict as kernel_strict}
use Rattle.rk_kernel.specs.Changes as changing
use Rattle.rk_kernel.specs.declared.description.Source as reading
use Rattle.rk_kernel.specs.declared.description.Source.TheVariants as source
use Rattle.rk_waves.specs.Programs.{One, Ends, written}
use Rattle.rk_feet.specs.Named.{Name, Node, Plain, EntryOf, AboveOf, ModeOf, BytesOf, OpenOf, PipeOf, OutputText, ErrorText, Used, Entry, Above, Mode, Bytes}
use Rattle.rk_feet.specs.Named.{top}
use Rattle.rk_feet.specs.Naming.{same_name, AreNamed}
use Rattle.rk_feet.specs.NamingLemmas.{clash, both, name-is, name-self}
use Rattle.rk_feet.specs.CellLemmas.{cells}
use Rattle.rk_feet.specs.Ways.{Found, Absent}
use Rattle.rk_feet.specs.Course.{what_of, here_named}
use Rattle.rk_feet.specs.Checks.{strict, writing}
use Rattle.rk_feet.specs.Changing.{links, link_found, link_at, link_from}
use Rattle.rk_feet.specs.World.{World, at, is_file, IsSource, entry_named, entry_in, up_named, above_in, mode_in, bytes_in}
use Rattle.rk_feet.specs.Simulates.{Becomes, Simulates, ends_in}
use Rattle.rk_feet.specs.Laws as law
use Rattle.rk_feet.proofs.LeadingLemmas.{Standing}
use Rattle.rk_feet.proofs.SimulationLemmas.{simulates-no}
use Rattle.rk_feet.proofs.NodeChangeLemmas.{length-change}
use Rattle.rk_feet.proofs.NodeMakingLemmas.{nodes-same}
use Rattle.rk_feet.proofs.MakingCallLemmas.{simulates-writing}
use Rattle.rk_feet.proofs.PlaceLemmas.{by-path}
use Rattle.rk_feet.proofs.QuestionLemmas.{strict-absent}
use Rattle.rk_feet.proofs.ShowsLemmas.{dir-back}
use Rattle.rk_feet.proofs.OptionLemmas.{same-some, none-some}

module _ (w : World) (d n : ℕ) (name : Text) (is : IsFreeName w.held.tree d name) (stands : Standing w.held.tree d)
    (there : is_there (node_at w.held.tree n) ≡ true) (file : is_dir (node_at w.held.tree n) ≡ false) where
  abbrev pub joined : List Inode
  joined = change (with_child name n) w.inodes d

  abbrev pub now : Hierarchy
  now = linked w.held.tree d name n

  pub joined-tree : IsTree joined now
  joined-tree = linked-tree w.inodes w.held.tree d n name w.tree is.named is.holds is.absent there file stands.1

  pub joined-length : length joined ≡ length w.inodes
  joined-length = length-change (with_child name n) w.inodes d

  pub node-joined : (j : ℕ) → node_at now j ≡ node_at w.held.tree j
  unfolding linked
  node-joined j = refl

  pub sources-joined : (x : reading.Source) → IsSource w.held.tree w.held.pipes x → IsSource now w.held.pipes x
  sources-joined (source.Node m) h = ap is_file (node-joined m) ∙ h
  sources-joined (source.Pipe q) h = h
  sources-joined source.Output h = h
  sources-joined source.ErrorText h = h
  sources-joined source.Nothing h = h

  abbrev pub joined-next : World
  joined-next = record w {
    held = with_tree w.held now;
    inodes = joined;
    tree = joined-tree;
    nodes_named = subst (λ c. AreNamed c w.nodes) (sym joined-length) w.nodes_named;
    are_open = λ k o e. record { stands = sources-joined o.source (w.are_open k o e).stands; plain = (w.are_open k o e).plain };
  }

  dir-at : (x : TreeNode) × (node_at w.held.tree d ≡ Some x)
  dir-at = dir_node (node_at w.held.tree d) is.holds.in_dir

  puts : PutsUnder w.inodes joined d name (Some n)
  puts = puts_name w.inodes d name n dir-at.0 (ap (λ l. slice_get l d) (nodes-same w) ∙ dir-at.1)

  entry-kept : (o : Option ℕ) → entry_named joined-next o ≡ entry_named w o
  entry-kept None = refl
  entry-kept (Some k) = ap (λ x. Some (record { name = w.nodes.name_of k; what = what_of x })) (node-joined k)

  entry-joined : (x : Name) (y : Text)
      → Entry (entry_in joined-next y (w.nodes.number_of x))
      ≡ (if same_name (w.nodes.name_of d) x && same_text name y then Entry
      (Some (record { name = w.nodes.name_of n; what = what_of (node_at w.held.tree n) })) else Entry (entry_in w y (w.nodes.number_of x)))
  entry-joined x y = go (w.nodes.number_of x) refl (same_name (w.nodes.name_of d) x && same_text name y) refl
    where
      number : same_name (w.nodes.name_of d) x ≡ true → w.nodes.number_of x ≡ Some d
      number s = ap w.nodes.number_of (sym (name-is (w.nodes.name_of d) x s)) ∙ dir-back w d is.holds.in_dir

      go : (o : Option ℕ) → w.nodes.number_of x ≡ o → (b : Bool) → (same_name (w.nodes.name_of d) x && same_text name y) ≡ b
          → Entry (entry_in joined-next y o) ≡ (if b then Entry (Some (record { name = w.nodes.name_of n; what = what_of (node_at w.held.tree n) })) else
          Entry (entry_in w y o))
      go None e true f = absurd (none-some d (sym e ∙ number (both (same_name (w.nodes.name_of d) x) (same_text name y) f).0))
      go None e false f = refl
      go (Some j) e true f =
          let two = both (same_name (w.nodes.name_of d) x) (same_text name y) f in
          ap₂ (λ i t. Entry (entry_named joined-next (under joined i t))) (same-some j d (sym e ∙ number two.0)) (sym (same_is name y two.1))
          ∙ ap (λ o. Entry (entry_named joined-next o)) puts.here ∙ ap Entry (entry-kept (Some n))
      go (Some j) e false f =
          ap (λ o. Entry (entry_named joined-next o))
          (puts.others j y (λ jd yn. clash _ (ap₂ ◌&&◌ (ap (λ k. same_name k x) (ap w.nodes.name_of (sym jd) ∙ (w.nodes_named.there x j e).1) ∙ name-self x)
          (ap (same_text name) yn ∙ same_itself name)) f))
          ∙ ap Entry (entry-kept (under w.inodes j y))

  pub joined-holds : (c : Plain) → at joined-next (One c)
      ≡ written cells (links (w.nodes.name_of d) name (record { name = w.nodes.name_of n; what = what_of (node_at w.held.tree n) })) c (at w (One c))
  joined-holds (EntryOf x y) = entry-joined x y
  joined-holds (AboveOf x) = ap Above (go (w.nodes.number_of x))
    where
      go : (o : Option ℕ) → above_in joined-next o ≡ above_in w o
      go None = refl
      go (Some j) = ap₂ (λ b place. if j == top_at then Some (top, []) else if b then up_named w place else None) (ap is_dir (node-joined j))
          (place-change (with_child name n) w.inodes d j (λ it. refl))
  joined-holds (ModeOf x) = go (w.nodes.number_of x)
    where
      go : (o : Option ℕ) → Mode (mode_in joined-next x o) ≡ Mode (mode_in w x o)
      go None = refl
      go (Some k) = ap (λ o. Mode (mode_of o)) (node-joined k)
  joined-holds (BytesOf x) = go (w.nodes.number_of x)
    where
      go : (o : Option ℕ) → Bytes (bytes_in joined-next o) ≡ Bytes (bytes_in w o)
      go None = refl
      go (Some k) = ap (λ o. Bytes (file_bytes o)) (node-joined k)
  joined-holds (OpenOf x) = refl
  joined-holds (PipeOf x) = refl
  joined-holds OutputText = refl
  joined-holds ErrorText = refl
  joined-holds (Used x y) = refl

  abbrev pub put-name : Becomes w (with_tree w.held now)
      (links (w.nodes.name_of d) name (record { name = w.nodes.name_of n; what = what_of (node_at w.held.tree n) }))
  put-name = record { next = joined-next; is = refl; holds = joined-holds; lasts = record { nodes = λ x n e. e; opens = λ x n e. e; pipes = λ x n e. e } }

-- From what was found to a second path.

module _ (w : World) (refs : RefsHeld) (from : TreeHere) (there : is_there (node_at w.held.tree from.node) ≡ true) where
  abbrev here : Node
  here = record { name = w.nodes.name_of from.node; what = what_of (node_at w.held.tree from.node) }

  over-found : (to : TreeHere) (o : Option TreeNode) → is_there o ≡ true
      → Simulates w (unless w.held refs ((is_dir o, Denied) ∷ (true, Exists) ∷ (lacks_w_at w.held (place.Found to), Denied) ∷ [])
      (done w.held refs (changing.linked_at w.held.tree (place.Found from) to.up)))
      (ends_in w (link_found here (what_of o) (Found (here_named w.held.tree (at w) w.nodes.name_of to))))
  over-found to None h = absurd (clash false h refl)
  over-found to (Some (AFile mode content)) h = simulates-no w refs Exists
  over-found to (Some (ADir mode)) h = simulates-no w refs Denied
  over-found to (Some (ALink text)) h = simulates-no w refs Exists

  under-absent : (d : ℕ) (name : Text) → IsFreeName w.held.tree d name → Standing w.held.tree d → is_dir (node_at w.held.tree from.node) ≡ false
      → Simulates w (unless w.held refs ((lacks_w w.held.tree d, Denied) ∷ []) (done w.held refs (linked w.held.tree d name from.node)))
      (ends_in w (writing (w.nodes.name_of d) (Ends answer.Done (links (w.nodes.name_of d) name here))))
  under-absent d name is stands file =
      simulates-writing w refs d (done w.held refs (linked w.held.tree d name from.node)) (Ends answer.Done (links (w.nodes.name_of d) name here))
      is.holds.in_dir
      (record { answer = refl; after = put-name w d from.node name is stands there file })

  over-absent : (d : ℕ) (name : Text) → IsFreeName w.held.tree d name → Standing w.held.tree d → (o : Option TreeNode) → node_at w.held.tree from.node ≡ o
      → is_there o ≡ true
      → Simulates w (unless w.held refs ((is_dir o, Denied) ∷ (false, Exists) ∷ (lacks_w w.held.tree d, Denied) ∷ [])
      (done w.held refs (linked w.held.tree d name from.node)))
      (ends_in w (link_found here (what_of o) (Absent (w.nodes.name_of d) name false)))
  over-absent d name is stands None e h = absurd (clash false h refl)
  over-absent d name is stands (Some (AFile mode content)) e h = under-absent d name is stands (ap is_dir e)
  over-absent d name is stands (Some (ADir mode)) e h = simulates-no w refs Denied
  over-absent d name is stands (Some (ALink text)) e h = under-absent d name is stands (ap is_dir e)

  link-second : (b : Text)
      → Simulates w (at_place w.held refs (kernel_strict (leads_to w.held.tree b false)) (changing.link_at w.held refs (place.Found from)))
      (ends_in w (link_from b (Found (here_named w.held.tree (at w) w.nodes.name_of from))))
  link-second b =
      by-path w (strict (link_at (Found (here_named w.held.tree (at w) w.nodes.name_of from))))
      (λ spot. at_place w.held refs (kernel_strict spot) (changing.link_at w.held refs (place.Found from))) b false (λ e. simulates-no w refs e)
      (λ to is plain. over-found to (node_at w.held.tree from.node) there)
      (λ dir name slash is stands. strict-absent w refs (changing.link_at w.held refs (place.Found from))
      (link_at (Found (here_named w.held.tree (at w) w.nodes.name_of from))) dir name slash
      (over-absent dir name is stands (node_at w.held.tree from.node) refl there))

link-absent : (w : World) (refs : RefsHeld) (b : Text) (d : ℕ) (n : Text)
    → Simulates w (at_place w.held refs (kernel_strict (leads_to w.held.tree b false)) (changing.link_at w.held refs (place.Absent d n false)))
    (ends_in w (link_from b (Absent (w.nodes.name_of d) n false)))
link-absent w refs b d n =
    by-path w (strict (link_at (Absent (w.nodes.name_of d) n false)))
    (λ spot. at_place w.held refs (kernel_strict spot) (changing.link_at w.held refs (place.Absent d n false))) b false (λ e. simulates-no w refs e)
    (λ to is plain. simulates-no w refs NoEntry)
    (λ dir name slash is stands. strict-absent w refs (changing.link_at w.held refs (place.Absent d n false)) (link_at (Absent (w.nodes.name_of d) n false))
    dir name slash (simulates-no w refs NoEntry))

pub links-names : law.LinksNames
links-names w refs a b =
    by-path w (strict (link_from b))
    (λ spot. at_place w.held refs (kernel_strict spot)
    (λ from. at_place w.held refs (kernel_strict (leads_to w.held.tree b false)) (changing.link_at w.held refs from))) a false (λ e. simulates-no w refs e)
    (λ from is plain. link-second w refs from is.there b)
    (λ dir name slash is stands. strict-absent w refs
    (λ from. at_place w.held refs (kernel_strict (leads_to w.held.tree b false)) (changing.link_at w.held refs from)) (link_from b) dir name slash
    (link-absent w refs b dir name))
