-- A node more under a name.
use Rattle.std.proofs.Common.{◌≡◌, ℕ, suc, ◌<◌, List, [], ◌∷◌, ◌++◌, length, Bool, true, false, ◌&&◌, Option, Some, None, refl, sym, ◌∙◌, ap, ap₂, subst, arith}
use Rattle.std.specs.Prelude.{◌==◌, if◌then◌else◌, slice_get}
use Rattle.std.specs.Option.{option_and_then}
use Rattle.std.specs.FinMap.{get, get-empty}
use Rattle.std.proofs.lemmas.Bool.{eq-eqb}
use Rattle.std.proofs.lemmas.Option.{slice_get_within, slice_get_past}
use Rattle.rk_base.specs.Text.{Text, text_cmp, same_text, join}
use Rattle.rk_base.proofs.WithinLemmas.{same_is, same_itself}
use Rattle.rk_tree.specs.declared.inode.Inode.{Inode}
use Rattle.rk_tree.specs.Entries.{is_dir, IsFit}
use Rattle.rk_tree.specs.Hierarchy.{Hierarchy, node as node_at, top as top_at, mode_of, file_bytes, added, path_of}
use Rattle.rk_tree.specs.Inodes.{under, names_in, place_in, nodes_of, change, placed, place_of, IsPlace}
use Rattle.rk_tree.specs.Inodes.{with_name as with_child}
use Rattle.rk_tree.specs.Node.{Node as TreeNode, File as AFile, Dir as ADir, Link as ALink}
use Rattle.rk_tree.proofs.ChangedLemmas.{PutsUnder, puts_name, under-more, place-change, entries-more, length-entries}
use Rattle.rk_tree.proofs.GrownLemmas.{added-tree}
use Rattle.rk_tree.proofs.ShownLemmas.{steps}
use Rattle.rk_tree.proofs.TreeLemmas.{IsTree}
use Rattle.rk_tree.proofs.WholeLemmas.{dir_node}
use Rattle.rk_walk.specs.Places.{IsFreeName}
use Rattle.rk_kernel.specs.World.{with_tree}
use Rattle.rk_kernel.specs.declared.description.Description as opening
use Rattle.rk_kernel.specs.declared.description.Source as reading
use Rattle.rk_kernel.specs.declared.description.Source.TheVariants as source
use Rattle.rk_waves.specs.Programs.{One, Sets, Update, updated, written}
use Rattle.rk_feet.specs.Named.{Name, Made, Of, Plain, EntryOf, AboveOf, ModeOf, BytesOf, OpenOf, PipeOf, OutputText, ErrorText, Used, Value, Entry, Above}
use Rattle.rk_feet.specs.Named.{Mode, Bytes, Opened, given_mode, top}
use Rattle.rk_feet.specs.Naming.{same_name, Naming, AreNamed, with_name}
use Rattle.rk_feet.specs.NamingLemmas.{clash, both, equal, name-is, name-self, named-more, named-added, kept-more}
use Rattle.rk_feet.specs.CellLemmas.{cells}
use Rattle.rk_feet.specs.Course.{what_of}
use Rattle.rk_feet.specs.Changing.{stands}
use Rattle.rk_feet.specs.Changing.{is_dir as is_dir_what}
use Rattle.rk_feet.specs.World.{World, at, is_plain, is_file, IsSource, entry_named, entry_in, up_named, above_in, mode_in, bytes_in, opened_named, opened_in}
use Rattle.rk_feet.specs.World.{source_named}
use Rattle.rk_feet.specs.Simulates.{Becomes}
use Rattle.rk_feet.proofs.MakingLemmas.{get-last, get-before, length-more, unused-more}
use Rattle.rk_feet.proofs.NodeChangeLemmas.{length-change}
use Rattle.rk_feet.proofs.ReadLemmas.{file-below}
use Rattle.rk_feet.proofs.ShowsLemmas.{whole, dir-below, dir-back}
use Rattle.rk_feet.proofs.OptionLemmas.{same-some, none-some}
use Rattle.rk_tree.specs.Refusals.{is_there}

apart : (q c : ℕ) → q < c → (q == c) ≡ false
apart q c h = grind arith

not-self : (q : ℕ) → q < q → ⊥
not-self q h = omega arith

-- numbers that stand somewhere are below the count

known-below : (w : World) (path : Text) (n : ℕ) → get w.tree.paths path ≡ Some n → n < length w.inodes
known-below w path n at_path =
    let it = w.tree.kept.0.known path n at_path in
    subst (λ c. n < c) (length-entries w.inodes) (slice_get_within (nodes_of w.inodes) n it.0 it.1)

pub under-below : (w : World) (d : ℕ) (name : Text) (n : ℕ) → under w.inodes d name ≡ Some n → n < length w.inodes
under-below w d name n is =
    let a = w.tree.kept.2 d name n is in
    known-below w (join a.1 name) n
    (steps w.inodes w.tree.paths w.tree.leads a.1 name (w.tree.kept.0.canonical a.1 d a.2) a.0 ∙ ap (option_and_then (λ k. under w.inodes k name)) a.2 ∙ is)

pub place-below : (w : World) (n : ℕ) (place : Option (ℕ × Text)) → IsPlace w.tree.paths n place → (up : ℕ × Text) → place ≡ Some up → up.0 < length w.inodes
place-below w n None is up e = absurd (none-some up e)
place-below w n (Some place) is up e = subst (λ u. u.0 < length w.inodes) (same-some place up e) (known-below w is.1 place.0 is.2)

pub nodes-same : (w : World) → nodes_of w.inodes ≡ w.held.tree.nodes
nodes-same w = ap (λ (h : Hierarchy). h.nodes) w.tree.is

-- a write that is there or not, of another cell
pub skip : (b : Bool) (x : Plain × Update Value) (p : Plain) (old : Value) → is_plain x.0 p ≡ false → written cells (if b then x ∷ [] else []) p old ≡ old
skip true x p old e = ap (λ b. if b then updated x.1 old else old) e
skip false x p old e = refl

dirs-agree : (it : TreeNode) → is_dir (Some it) ≡ is_dir_what (what_of (Some it))
dirs-agree (AFile mode content) = refl
dirs-agree (ADir mode) = refl
dirs-agree (ALink text) = refl

module _ (w : World) (r s p m : ℕ) (mine : w.used r s ≡ true) (free : w.nodes.number_of (Made r s p m) ≡ None) (d : ℕ) (name : Text) (it : TreeNode)
    (is : IsFreeName w.held.tree d name) (has_path : is_there (path_of w.held.tree d) ≡ true) (fit : IsFit it) (modes : mode_of (Some it) ≡ m)
    (empty_file : file_bytes (Some it) ≡ []) where
  abbrev pub me : Name
  me = Made r s p m

  abbrev pub count : ℕ
  count = length w.inodes

  abbrev pub grown : List Inode
  grown = w.inodes ++ placed d name it ∷ []

  abbrev pub made : List Inode
  made = change (with_child name (length w.inodes)) (w.inodes ++ placed d name it ∷ []) d

  abbrev pub now : Hierarchy
  now = added w.held.tree d name it

  pub made-tree : IsTree made now
  made-tree = added-tree w.inodes w.held.tree d name it w.tree is.named is.holds is.absent fit has_path

  pub made-length : length made ≡ suc (length w.inodes)
  made-length = length-change (with_child name (length w.inodes)) grown d ∙ length-more w.inodes (placed d name it)

  pub nodes-length : length w.held.tree.nodes ≡ length w.inodes
  nodes-length = ap (λ l. length l) (sym (nodes-same w)) ∙ length-entries w.inodes

  pub node-now : (j : ℕ) → node_at now j ≡ slice_get (w.held.tree.nodes ++ it ∷ []) j
  unfolding added
  node-now j = refl

  pub node-new : node_at now (length w.inodes) ≡ Some it
  node-new = node-now (length w.inodes) ∙ ap (slice_get (w.held.tree.nodes ++ it ∷ [])) (sym nodes-length) ∙ get-last w.held.tree.nodes it

  pub node-old : (j : ℕ) → j < length w.inodes → node_at now j ≡ node_at w.held.tree j
  node-old j h = node-now j ∙ get-before w.held.tree.nodes it j (subst (λ c. j < c) (sym nodes-length) h)

  abbrev pub names-now : Naming
  names-now = with_name w.nodes (length w.inodes) (Made r s p m)

  pub name-old : (j : ℕ) → j < length w.inodes → names-now.name_of j ≡ w.nodes.name_of j
  name-old j h = ap (λ b. if b then Made r s p m else w.nodes.name_of j) (apart j (length w.inodes) h)

  pub name-new : names-now.name_of (length w.inodes) ≡ Made r s p m
  name-new = ap (λ b. if b then Made r s p m else w.nodes.name_of (length w.inodes)) (equal (length w.inodes))

  pub sources-now : (x : reading.Source) → IsSource w.held.tree w.held.pipes x → IsSource now w.held.pipes x
  sources-now (source.Node n) h = ap is_file (node-old n (file-below w n h)) ∙ h
  sources-now (source.Pipe q) h = h
  sources-now source.Output h = h
  sources-now source.ErrorText h = h
  sources-now source.Nothing h = h

  pub top-now : names-now.name_of top_at ≡ top
  top-now = name-old top_at (dir-below w top_at (whole w).root_dir) ∙ w.top_is

  abbrev pub made-next : World
  made-next = record w {
    held = with_tree w.held now;
    inodes = made;
    tree = made-tree;
    nodes = names-now;
    nodes_named = subst (λ c. AreNamed c names-now) (sym made-length) (named-more (length w.inodes) w.nodes w.nodes_named (Made r s p m) free);
    top_is = top-now;
    are_open = λ k o e. record { stands = sources-now o.source (w.are_open k o e).stands; plain = (w.are_open k o e).plain };
    unused = λ t u q n e. let old = w.unused t u q n e in (unused-more w.nodes (length w.inodes) w.used r s p m t u q n mine e old.0, old.1, old.2);
  }

  dir-at : (x : TreeNode) × (node_at w.held.tree d ≡ Some x)
  dir-at = dir_node (node_at w.held.tree d) is.holds.in_dir

  d-below : d < length w.inodes
  d-below = dir-below w d is.holds.in_dir

  puts : PutsUnder grown made d name (Some (length w.inodes))
  puts = puts_name grown d name (length w.inodes) dir-at.0
      (ap (λ l. slice_get l d) (entries-more w.inodes (placed d name it))
      ∙ get-before (nodes_of w.inodes) it d (subst (λ c. d < c) (sym (length-entries w.inodes)) d-below) ∙ ap (λ l. slice_get l d) (nodes-same w) ∙ dir-at.1)

  under-other : (j : ℕ) (y : Text) → (j ≡ d → y ≡ name → ⊥) → under made j y ≡ under w.inodes j y
  under-other j y differ = puts.others j y differ ∙ under-more w.inodes (placed d name it) j y refl

  -- the cell of the name

  known-name : (x : Name) → same_name (w.nodes.name_of d) x ≡ true → w.nodes.number_of x ≡ Some d
  known-name x e = ap w.nodes.number_of (sym (name-is (w.nodes.name_of d) x e)) ∙ dir-back w d is.holds.in_dir

  not-there : (x : Name) → w.nodes.number_of x ≡ None → (y : Text) → (same_name (w.nodes.name_of d) x && same_text name y) ≡ false
  not-there x none y = go (same_name (w.nodes.name_of d) x) refl
    where
      go : (b : Bool) → same_name (w.nodes.name_of d) x ≡ b → (b && same_text name y) ≡ false
      go false e = refl
      go true e = absurd (none-some d (sym none ∙ known-name x e))

  entry-kept : (o : Option ℕ) → ((k : ℕ) → o ≡ Some k → k < length w.inodes) → entry_named made-next o ≡ entry_named w o
  entry-kept None h = refl
  entry-kept (Some k) h = ap₂ (λ n x. Some (record { name = n; what = x })) (name-old k (h k refl)) (ap what_of (node-old k (h k refl)))

  entry-now : (x : Name) (y : Text)
      → Entry (entry_in made-next y (names-now.number_of x))
      ≡ (if same_name (w.nodes.name_of d) x && same_text name y then Entry (Some (record { name = Made r s p m; what = what_of (Some it) })) else Entry
      (entry_in w y (w.nodes.number_of x)))
  entry-now x y = go (same_name (Made r s p m) x) refl (w.nodes.number_of x) refl
    where
      none : w.nodes.number_of x ≡ None → (o : Option ℕ) → w.nodes.number_of x ≡ o
          → Entry None ≡ (if same_name (w.nodes.name_of d) x && same_text name y then Entry (Some (record { name = Made r s p m; what = what_of (Some it) }))
          else Entry (entry_in w y o))
      none e o is_o =
          ap (λ o. Entry (entry_in w y o)) (sym e ∙ is_o)
          ∙ ap (λ b. if b then Entry (Some (record { name = Made r s p m; what = what_of (Some it) })) else Entry (entry_in w y o)) (sym (not-there x e y))

      past : under w.inodes (length w.inodes) y ≡ None
      past = ap (λ o. get (names_in o) y) (slice_get_past w.inodes (length w.inodes) (omega arith)) ∙ get-empty text_cmp y

      at-dir : (j : ℕ) → w.nodes.number_of x ≡ Some j → (b : Bool) → (same_name (w.nodes.name_of d) x && same_text name y) ≡ b
          → Entry (entry_named made-next (under made j y))
          ≡ (if b then Entry (Some (record { name = Made r s p m; what = what_of (Some it) })) else Entry (entry_named w (under w.inodes j y)))
      at-dir j e true f =
          let two = both (same_name (w.nodes.name_of d) x) (same_text name y) f in
          let same : j ≡ d = same-some j d (sym e ∙ known-name x two.0) in
          ap₂ (λ i t. Entry (entry_named made-next (under made i t))) same (sym (same_is name y two.1))
          ∙ ap (λ o. Entry (entry_named made-next o)) puts.here
          ∙ ap₂ (λ n t. Entry (Some (record { name = n; what = t }))) name-new (ap what_of node-new)
      at-dir j e false f =
          ap (λ o. Entry (entry_named made-next o))
          (under-other j y (λ jd yn. clash _ (ap₂ ◌&&◌ (ap (λ n. same_name n x) (ap w.nodes.name_of (sym jd) ∙ (w.nodes_named.there x j e).1) ∙ name-self x)
          (ap (same_text name) yn ∙ same_itself name)) f))
          ∙ ap Entry (entry-kept (under w.inodes j y) (λ k is_k. under-below w j y k is_k))

      go : (b : Bool) → same_name (Made r s p m) x ≡ b → (o : Option ℕ) → w.nodes.number_of x ≡ o
          → Entry (entry_in made-next y (if b then Some (length w.inodes) else o))
          ≡ (if same_name (w.nodes.name_of d) x && same_text name y then Entry (Some (record { name = Made r s p m; what = what_of (Some it) })) else Entry
          (entry_in w y o))
      go true e o is_o =
          ap (λ o. Entry (entry_named made-next o)) (under-other (length w.inodes) y (λ same n. not-self d (subst (λ c. d < c) same d-below)) ∙ past)
          ∙ none (ap w.nodes.number_of (sym (name-is (Made r s p m) x e)) ∙ free) o is_o
      go false e None is_o = none is_o None is_o
      go false e (Some j) is_o = at-dir j is_o (same_name (w.nodes.name_of d) x && same_text name y) refl

  -- where it stands

  up-kept : (place : Option (ℕ × Text)) → ((up : ℕ × Text) → place ≡ Some up → up.0 < length w.inodes) → up_named made-next place ≡ up_named w place
  up-kept None h = refl
  up-kept (Some up) h = ap (λ n. Some (n, up.1)) (name-old up.0 (h up refl))

  above-old : (j : ℕ) → j < length w.inodes → above_in made-next (Some j) ≡ above_in w (Some j)
  above-old j h =
      ap₂ (λ b place. if j == top_at then Some (top, []) else if b then up_named made-next place else None) (ap is_dir (node-old j h))
      (place-change (with_child name (length w.inodes)) grown d j (λ it. refl) ∙ ap place_in (get-before w.inodes (placed d name it) j h))
      ∙ go (j == top_at) refl (is_dir (node_at w.held.tree j)) refl
    where
      go : (a : Bool) → (j == top_at) ≡ a → (b : Bool) → is_dir (node_at w.held.tree j) ≡ b
          → (if a then Some (top, []) else if b then up_named made-next (place_in (slice_get w.inodes j)) else None)
          ≡ (if a then Some (top, []) else if b then up_named w (place_in (slice_get w.inodes j)) else None)
      go true e b f = refl
      go false e false f = refl
      go false e true f =
          up-kept (place_in (slice_get w.inodes j))
          (place-below w j (place_in (slice_get w.inodes j))
          (w.tree.kept.1 j (λ same. clash (j == top_at) (eq-eqb j top_at same) e) (ap (λ l. is_dir (slice_get l j)) (nodes-same w) ∙ f)))

  up-new : (x : TreeNode) → (if is_dir (Some x) then up_named made-next (place_of x d name) else None)
      ≡ (if is_dir_what (what_of (Some x)) then Some (names-now.name_of d, name) else None)
  up-new (AFile mode content) = refl
  up-new (ADir mode) = refl
  up-new (ALink text) = refl

  top-apart : (n c : ℕ) → n < c → (c == n) ≡ false
  top-apart n c h = grind arith

  above-new : above_in made-next (Some (length w.inodes)) ≡ (if is_dir_what (what_of (Some it)) then Some (w.nodes.name_of d, name) else None)
  above-new =
      ap (λ b. if b then Some (top, []) else if is_dir (node_at now (length w.inodes)) then up_named made-next (place_in (slice_get made (length w.inodes)))
      else None)
      (top-apart top_at (length w.inodes) (dir-below w top_at (whole w).root_dir))
      ∙ ap₂ (λ o place. if is_dir o then up_named made-next place else None) node-new
      (place-change (with_child name (length w.inodes)) grown d (length w.inodes) (λ it. refl) ∙ ap place_in (get-last w.inodes (placed d name it)))
      ∙ up-new it ∙ ap (λ n. if is_dir_what (what_of (Some it)) then Some (n, name) else None) (name-old d d-below)

  -- what it holds has been so before
  unmade : {V : Type 0} (see : Option ℕ → V) (v : V) → see None ≡ v → (x : Name)
      → (if same_name (Made r s p m) x then v else see (w.nodes.number_of x)) ≡ see (w.nodes.number_of x)
  unmade see v e x = go (same_name (Made r s p m) x) refl
    where
      go : (b : Bool) → same_name (Made r s p m) x ≡ b → (if b then v else see (w.nodes.number_of x)) ≡ see (w.nodes.number_of x)
      go true f = sym e ∙ ap see (sym free ∙ ap w.nodes.number_of (name-is (Made r s p m) x f))
      go false f = refl

  above-written : (b : Bool) (x : Name)
      → (if same_name (Made r s p m) x then Above (if b then Some (w.nodes.name_of d, name) else None) else at w (One (AboveOf x)))
      ≡ written cells (if b then (AboveOf (Made r s p m), Sets (Above (Some (w.nodes.name_of d, name)))) ∷ [] else []) (AboveOf x) (at w (One (AboveOf x)))
  above-written true x = refl
  above-written false x = unmade (λ o. Above (above_in w o)) (Above None) refl x

  mode-now : (x : Name) → Mode (mode_in made-next x (names-now.number_of x)) ≡ at w (One (ModeOf x))
  mode-now x =
      named-added (length w.inodes) w.nodes w.nodes_named (Made r s p m) (λ o. Mode (mode_in w x o)) (λ o. Mode (mode_in made-next x o)) (Mode m)
      (ap (λ o. Mode (mode_of o)) node-new ∙ ap Mode modes) (λ j h. ap (λ o. Mode (mode_of o)) (node-old j h)) refl x
      ∙ go (same_name (Made r s p m) x) refl
    where
      go : (b : Bool) → same_name (Made r s p m) x ≡ b
          → (if b then Mode m else Mode (mode_in w x (w.nodes.number_of x))) ≡ Mode (mode_in w x (w.nodes.number_of x))
      go true f = ap (λ n. Mode (given_mode n)) (name-is (Made r s p m) x f)
          ∙ ap (λ o. Mode (mode_in w x o)) (sym free ∙ ap w.nodes.number_of (name-is (Made r s p m) x f))
      go false f = refl

  opened-now : (k : ℕ) (o : Option opening.Description) → slice_get w.held.opens k ≡ o → opened_named made-next o ≡ opened_named w o
  opened-now k None e = refl
  opened-now k (Some x) e = ap (λ y. Some (record
      { source = y; offset = if x.append then 0 else x.offset; read = x.read; write = x.write; append = x.append })) (go x.source (w.are_open k x e).stands)
    where
      go : (y : reading.Source) → IsSource w.held.tree w.held.pipes y → source_named made-next y ≡ source_named w y
      go (source.Node n) h = ap Of (name-old n (file-below w n h))
      go (source.Pipe q) h = refl
      go source.Output h = refl
      go source.ErrorText h = refl
      go source.Nothing h = refl

  opens-now : (o : Option ℕ) → Opened (opened_in made-next o) ≡ Opened (opened_in w o)
  opens-now None = refl
  opens-now (Some k) = ap Opened (opened-now k (slice_get w.held.opens k) refl)

  pub made-holds : (c : Plain)
      → at made-next (One c)
      ≡ written cells ((EntryOf (w.nodes.name_of d) name, Sets (Entry (Some (record { name = Made r s p m; what = what_of (Some it) }))))
      ∷ stands (record { name = Made r s p m; what = what_of (Some it) }) (w.nodes.name_of d, name)) c (at w (One c))
  made-holds (EntryOf x y) = entry-now x y ∙ sym (skip (is_dir_what (what_of (Some it))) _ (EntryOf x y) _ refl)
  made-holds (AboveOf x) =
      named-added (length w.inodes) w.nodes w.nodes_named (Made r s p m) (λ o. Above (above_in w o)) (λ o. Above (above_in made-next o))
      (Above (if is_dir_what (what_of (Some it)) then Some (w.nodes.name_of d, name) else None))
      (ap Above above-new) (λ j h. ap Above (above-old j h)) refl x
      ∙ above-written (is_dir_what (what_of (Some it))) x
  made-holds (ModeOf x) = mode-now x ∙ sym (skip (is_dir_what (what_of (Some it))) _ (ModeOf x) _ refl)
  made-holds (BytesOf x) =
      named-added (length w.inodes) w.nodes w.nodes_named (Made r s p m) (λ o. Bytes (bytes_in w o)) (λ o. Bytes (bytes_in made-next o)) (Bytes [])
      (ap (λ o. Bytes (file_bytes o)) node-new ∙ ap Bytes empty_file) (λ j h. ap (λ o. Bytes (file_bytes o)) (node-old j h)) refl x
      ∙ unmade (λ o. Bytes (bytes_in w o)) (Bytes []) refl x ∙ sym (skip (is_dir_what (what_of (Some it))) _ (BytesOf x) _ refl)
  made-holds (OpenOf x) = opens-now (w.opens.number_of x) ∙ sym (skip (is_dir_what (what_of (Some it))) _ (OpenOf x) _ refl)
  made-holds (PipeOf x) = sym (skip (is_dir_what (what_of (Some it))) _ (PipeOf x) _ refl)
  made-holds OutputText = sym (skip (is_dir_what (what_of (Some it))) _ OutputText _ refl)
  made-holds ErrorText = sym (skip (is_dir_what (what_of (Some it))) _ ErrorText _ refl)
  made-holds (Used x y) = sym (skip (is_dir_what (what_of (Some it))) _ (Used x y) _ refl)

  abbrev pub add-node :
      Becomes w (with_tree w.held now)
      ((EntryOf (w.nodes.name_of d) name, Sets (Entry (Some (record { name = Made r s p m; what = what_of (Some it) }))))
      ∷ stands (record { name = Made r s p m; what = what_of (Some it) }) (w.nodes.name_of d, name))
  add-node = record {
    next = made-next;
    is = refl;
    holds = made-holds;
    lasts = record { nodes = kept-more w.nodes (length w.inodes) (Made r s p m) free; opens = λ x n e. e; pipes = λ x n e. e };
  }
