-- What stands under a name goes under another one.
use Rattle.std.proofs.Common.{◌≡◌, ℕ, zero, suc, ◌<◌, List, [], ◌∷◌, ◌++◌, length, Bool, true, false, ◌&&◌, Option, Some, None, inl, inr, refl, sym, ◌∙◌, ap}
use Rattle.std.proofs.Common.{ap₂, subst, arith}
use Rattle.std.specs.Prelude.{◌==◌, if◌then◌else◌, slice_get}
use Rattle.std.specs.Option.{option_map, option_and_then}
use Rattle.std.proofs.lemmas.Bool.{eqb-true, eq-eqb}
use Rattle.rk_base.specs.Text.{Text, same_text, join}
use Rattle.rk_base.specs.Canonical.{is_name}
use Rattle.rk_base.proofs.WithinLemmas.{same_is, same_itself}
use Rattle.rk_tree.specs.declared.inode.Inode.{Inode}
use Rattle.rk_tree.specs.Entries.{is_dir}
use Rattle.rk_tree.specs.Hierarchy.{Hierarchy, Paths, node as node_at, top as top_at, child, path_of, renamed, is_same, moved_paths, with_path, mode_of}
use Rattle.rk_tree.specs.Hierarchy.{file_bytes}
use Rattle.rk_tree.specs.Inodes.{under, place_in, place_of, change, cleared, with_place, without_name}
use Rattle.rk_tree.specs.Inodes.{with_name as with_child}
use Rattle.rk_tree.specs.Node.{Node as TreeNode, File as AFile, Dir as ADir, Link as ALink}
use Rattle.rk_tree.specs.Refusals.{is_there, first_of, rename_checks}
use Rattle.rk_tree.specs.Whole.{MayHold}
use Rattle.rk_tree.proofs.ChangedLemmas.{PutsUnder, puts_name, takes_name, change_cases, under-change, place-change}
use Rattle.rk_tree.proofs.RenamedTreeLemmas.{renamed-tree}
use Rattle.rk_tree.proofs.TreeLemmas.{IsTree}
use Rattle.rk_tree.proofs.WholeLemmas.{dir_node}
use Rattle.rk_kernel.specs.World.{with_tree}
use Rattle.rk_kernel.specs.declared.description.Source as reading
use Rattle.rk_kernel.specs.declared.description.Source.TheVariants as source
use Rattle.rk_waves.specs.Programs.{One, Sets, Update, updated, written}
use Rattle.rk_feet.specs.Named.{Name, Node, Plain, EntryOf, AboveOf, ModeOf, BytesOf, OpenOf, PipeOf, OutputText, ErrorText, Used, Value, Entry, Above, Mode}
use Rattle.rk_feet.specs.Named.{Bytes, Writes, top}
use Rattle.rk_feet.specs.Naming.{same_name, AreNamed}
use Rattle.rk_feet.specs.NamingLemmas.{clash, both, name-is, name-self, named-set}
use Rattle.rk_feet.specs.CellLemmas.{cells}
use Rattle.rk_feet.specs.Course.{what_of}
use Rattle.rk_feet.specs.Changing.{stands, gone}
use Rattle.rk_feet.specs.Changing.{is_dir as is_dir_what}
use Rattle.rk_feet.specs.World.{World, at, is_plain, is_file, IsSource, entry_named, entry_in, up_named, above_in, mode_in, bytes_in}
use Rattle.rk_feet.specs.Simulates.{Becomes}
use Rattle.rk_feet.proofs.NodeChangeLemmas.{length-change}
use Rattle.rk_feet.proofs.NodeMakingLemmas.{skip, nodes-same}
use Rattle.rk_feet.proofs.PlaceLemmas.{node-back, found-node}
use Rattle.rk_feet.proofs.ReadLemmas.{node-below}
use Rattle.rk_feet.proofs.RemovingLemmas.{not-top}
use Rattle.rk_tree.proofs.BelowLemmas.{child_stands}
use Rattle.rk_feet.proofs.SimulationLemmas.{written-on}
use Rattle.rk_feet.proofs.ShowsLemmas.{dir-back, whole}
use Rattle.rk_feet.proofs.OptionLemmas.{same-some, none-some}
use Rattle.rk_feet.proofs.KindLemmas.{dirs-agree}

within-there : {A : Type 0} (xs : List A) (n : ℕ) → n < length xs → is_there (slice_get xs n) ≡ true
within-there [] n h = absurd (omega arith)
within-there (x ∷ xs) zero h = refl
within-there (x ∷ xs) (suc n) h = within-there xs n (omega arith)

place-given : (place : Option (ℕ × Text)) (o : Option Inode) → is_there o ≡ true → place_in (option_map (with_place place) o) ≡ place
place-given place None h = absurd (clash false h refl)
place-given place (Some it) h = refl

place-taken : (o : Option Inode) → place_in (option_map (with_place None) o) ≡ None
place-taken None = refl
place-taken (Some it) = refl

-- an optional write of another cell
written-skip : (ws : Writes) (b : Bool) (x : Plain × Update Value) (p : Plain) (old : Value) → is_plain x.0 p ≡ false
    → written cells ((if b then x ∷ [] else []) ++ ws) p old ≡ written cells ws p old
written-skip ws true x p old e = ap (λ b. written cells ws p (if b then updated x.1 old else old)) e
written-skip ws false x p old e = refl

module _ (w : World) (dir n to : ℕ) (name new : Text) (over : Option ℕ) (named : is_name new ≡ true) (found : child w.held.tree dir name ≡ Some n)
    (is_over : child w.held.tree to new ≡ over)
    (differ : is_same (Some n) over ≡ false) (may : MayHold w.held.tree to new) (allowed : first_of (rename_checks w.held.tree dir n to over) ≡ None)
    (has : is_there (path_of w.held.tree to) ≡ true)
    (in_dir : is_dir (node_at w.held.tree dir) ≡ true) (there : is_there (node_at w.held.tree n) ≡ true) where
  abbrev pub place : Option (ℕ × Text)
  place = option_and_then (λ it. place_of it to new) (node_at w.held.tree n)

  abbrev pub come : List Inode
  come = change (with_child new n) w.inodes to

  abbrev pub gone_from : List Inode
  gone_from = change (without_name name) (change (with_child new n) w.inodes to) dir

  abbrev pub moved : List Inode
  moved = change (with_place (option_and_then (λ it. place_of it to new) (node_at w.held.tree n)))
      (cleared (change (without_name name) (change (with_child new n) w.inodes to) dir) over) n

  abbrev pub now : Hierarchy
  now = renamed w.held.tree dir name to new

  pub moved-tree : IsTree moved now
  moved-tree = renamed-tree w.inodes w.held.tree dir n to name new over place w.tree named (sym found) (sym is_over) differ may allowed has refl

  pub nodes-moved : now.nodes ≡ w.held.tree.nodes
  unfolding renamed
  nodes-moved =
      go (with_path (path_of w.held.tree dir) (λ from. with_path (path_of w.held.tree to)
      (λ onto. moved_paths (join from name) (join onto new) w.held.tree.paths) w.held.tree.paths) w.held.tree.paths)
      (is_same (child w.held.tree dir name) (child w.held.tree to new))
    where
      go : (paths : Paths) (b : Bool) → (if b then w.held.tree else record w.held.tree { paths = paths }).nodes ≡ w.held.tree.nodes
      go paths true = refl
      go paths false = refl

  pub node-moved : (j : ℕ) → node_at now j ≡ node_at w.held.tree j
  node-moved j = ap (λ l. slice_get l j) nodes-moved

  length-cleared : (ns : List Inode) (o : Option ℕ) → length (cleared ns o) ≡ length ns
  length-cleared ns None = refl
  length-cleared ns (Some m) = length-change (with_place None) ns m

  pub moved-length : length moved ≡ length w.inodes
  moved-length = length-change (with_place place) (cleared gone_from over) n ∙ length-cleared gone_from over ∙ length-change (without_name name) come dir
      ∙ length-change (with_child new n) w.inodes to

  pub sources-moved : (x : reading.Source) → IsSource w.held.tree w.held.pipes x → IsSource now w.held.pipes x
  sources-moved (source.Node m) h = ap is_file (node-moved m) ∙ h
  sources-moved (source.Pipe q) h = h
  sources-moved source.Output h = h
  sources-moved source.ErrorText h = h
  sources-moved source.Nothing h = h

  abbrev pub moved-next : World
  moved-next = record w {
    held = with_tree w.held now;
    inodes = moved;
    tree = moved-tree;
    nodes_named = subst (λ c. AreNamed c w.nodes) (sym moved-length) w.nodes_named;
    are_open = λ k o e. record { stands = sources-moved o.source (w.are_open k o e).stands; plain = (w.are_open k o e).plain };
  }

  -- entries

  to-at : (x : TreeNode) × (node_at w.held.tree to ≡ Some x)
  to-at = dir_node (node_at w.held.tree to) may.in_dir

  puts : PutsUnder w.inodes come to new (Some n)
  puts = puts_name w.inodes to new n to-at.0 (ap (λ l. slice_get l to) (nodes-same w) ∙ to-at.1)

  takes : PutsUnder come gone_from dir name None
  takes = takes_name come dir name

  under-cleared : (o : Option ℕ) (j : ℕ) (y : Text) → under (cleared gone_from o) j y ≡ under gone_from j y
  under-cleared None j y = refl
  under-cleared (Some m) j y = under-change (with_place None) gone_from m j y (λ it. refl)

  under-moved : (j : ℕ) (y : Text) → under moved j y ≡ under gone_from j y
  under-moved j y = under-change (with_place place) (cleared gone_from over) n j y (λ it. refl) ∙ under-cleared over j y

  entry-kept : (o : Option ℕ) → entry_named moved-next o ≡ entry_named w o
  entry-kept None = refl
  entry-kept (Some k) = ap (λ x. Some (record { name = w.nodes.name_of k; what = what_of x })) (node-moved k)

  apart-names : to ≡ dir → new ≡ name → ⊥
  apart-names d t = clash (is_same (Some n) over) (ap (is_same (Some n)) (sym is_over ∙ ap₂ (child w.held.tree) d t ∙ found) ∙ eq-eqb n n refl) differ

  entry-moved : (x : Name) (y : Text)
      → Entry (entry_in moved-next y (w.nodes.number_of x))
      ≡ (if same_name (w.nodes.name_of to) x && same_text new y then Entry (Some (record { name = w.nodes.name_of n; what = what_of (node_at w.held.tree n) }))
      else if same_name (w.nodes.name_of dir) x && same_text name y then Entry None else Entry (entry_in w y (w.nodes.number_of x)))
  entry-moved x y = go (w.nodes.number_of x) refl (same_name (w.nodes.name_of to) x && same_text new y) refl
      (same_name (w.nodes.name_of dir) x && same_text name y) refl
    where
      is-number : (d : ℕ) → is_dir (node_at w.held.tree d) ≡ true → same_name (w.nodes.name_of d) x ≡ true → w.nodes.number_of x ≡ Some d
      is-number d h s = ap w.nodes.number_of (sym (name-is (w.nodes.name_of d) x s)) ∙ dir-back w d h

      other : (d : ℕ) (t : Text) (j : ℕ) → w.nodes.number_of x ≡ Some j → (same_name (w.nodes.name_of d) x && same_text t y) ≡ false → j ≡ d → y ≡ t → ⊥
      other d t j e f jd yt = clash _ (ap₂ ◌&&◌ (ap (λ k. same_name k x) (ap w.nodes.name_of (sym jd) ∙ (w.nodes_named.there x j e).1) ∙ name-self x)
          (ap (same_text t) yt ∙ same_itself t)) f

      go : (o : Option ℕ) → w.nodes.number_of x ≡ o → (a : Bool) → (same_name (w.nodes.name_of to) x && same_text new y) ≡ a → (b : Bool)
          → (same_name (w.nodes.name_of dir) x && same_text name y) ≡ b
          → Entry (entry_in moved-next y o) ≡ (if a then Entry (Some (record { name = w.nodes.name_of n; what = what_of (node_at w.held.tree n) })) else if b
          then Entry None else Entry (entry_in w y o))
      go None e true f b g = absurd (none-some to (sym e ∙ is-number to may.in_dir (both (same_name (w.nodes.name_of to) x) (same_text new y) f).0))
      go None e false f true g = refl
      go None e false f false g = refl
      go (Some j) e true f b g =
          let two = both (same_name (w.nodes.name_of to) x) (same_text new y) f in
          ap (λ o. Entry (entry_named moved-next o))
          (under-moved j y ∙ ap₂ (λ i t. under gone_from i t) (same-some j to (sym e ∙ is-number to may.in_dir two.0)) (sym (same_is new y two.1))
          ∙ takes.others to new apart-names ∙ puts.here)
          ∙ ap Entry (entry-kept (Some n))
      go (Some j) e false f true g =
          let two = both (same_name (w.nodes.name_of dir) x) (same_text name y) g in
          ap (λ o. Entry (entry_named moved-next o))
          (under-moved j y ∙ ap₂ (λ i t. under gone_from i t) (same-some j dir (sym e ∙ is-number dir in_dir two.0)) (sym (same_is name y two.1)) ∙ takes.here)
      go (Some j) e false f false g =
          ap (λ o. Entry (entry_named moved-next o)) (under-moved j y ∙ takes.others j y (other dir name j e g) ∙ puts.others j y (other to new j e f))
          ∙ ap Entry (entry-kept (under w.inodes j y))

  -- where directories stand

  place-left : (j : ℕ) → place_in (slice_get gone_from j) ≡ place_in (slice_get w.inodes j)
  place-left j = place-change (without_name name) come dir j (λ it. refl) ∙ place-change (with_child new n) w.inodes to j (λ it. refl)

  place-n : place_in (slice_get moved n) ≡ place
  place-n = elim (change_cases (with_place place) (cleared gone_from over) n n) [
    | inl here ↦
        let it = found-node (node_at w.held.tree n) there in
        ap place_in here.1 ∙ place-given place (slice_get (cleared gone_from over) n)
        (within-there (cleared gone_from over) n
        (subst (λ c. n < c) (sym (length-cleared gone_from over ∙ length-change (without_name name) come dir
        ∙ length-change (with_child new n) w.inodes to)) (node-below w n it.0 it.1)))
    | inr other ↦ absurd (other.0 refl)
  ]

  place-other : (j : ℕ) → (j ≡ n → ⊥) → place_in (slice_get moved j) ≡ place_in (slice_get (cleared gone_from over) j)
  place-other j apart = elim (change_cases (with_place place) (cleared gone_from over) n j) [
    | inl here ↦ absurd (apart here.0)
    | inr other ↦ ap place_in other.1
  ]

  cleared-here : (ns : List Inode) (g : ℕ) → place_in (slice_get (cleared ns (Some g)) g) ≡ None
  cleared-here ns g = elim (change_cases (with_place None) ns g g) [
    | inl here ↦ ap place_in here.1 ∙ place-taken (slice_get ns g)
    | inr other ↦ absurd (other.0 refl)
  ]

  cleared-other : (ns : List Inode) (o : Option ℕ) (j : ℕ) → (o ≡ Some j → ⊥) → place_in (slice_get (cleared ns o) j) ≡ place_in (slice_get ns j)
  cleared-other ns None j apart = refl
  cleared-other ns (Some g) j apart = elim (change_cases (with_place None) ns g j) [
    | inl here ↦ absurd (apart (ap Some (sym here.0)))
    | inr other ↦ ap place_in other.1
  ]

  -- of what moved: it stands under its new name, if it is a directory
  pub above-n : above_in moved-next (Some n) ≡ (if is_dir_what (what_of (node_at w.held.tree n)) then Some (w.nodes.name_of to, new) else None)
  above-n =
      ap₂ (λ a pl. if a then Some (top, []) else if is_dir (node_at now n) then up_named w pl else None) (not-top w dir name n found) place-n
      ∙ ap (λ o. if is_dir o then up_named w place else None) (node-moved n) ∙ go (node_at w.held.tree n) there
    where
      go : (o : Option TreeNode) → is_there o ≡ true
          → (if is_dir o then up_named w (option_and_then (λ it. place_of it to new) o) else None)
          ≡ (if is_dir_what (what_of o) then Some (w.nodes.name_of to, new) else None)
      go None h = absurd (clash false h refl)
      go (Some (AFile mode content)) h = refl
      go (Some (ADir mode)) h = refl
      go (Some (ALink text)) h = refl

  -- of what was replaced: it stands nowhere
  pub above-gone : (g : ℕ) → over ≡ Some g → (g ≡ n → ⊥) → above_in moved-next (Some g) ≡ None
  above-gone g e apart =
      ap₂ (λ a pl. if a then Some (top, []) else if is_dir (node_at now g) then up_named w pl else None) (not-top w to new g (is_over ∙ e))
      (place-other g apart ∙ ap (λ o. place_in (slice_get (cleared gone_from o) g)) e ∙ cleared-here gone_from g)
      ∙ either (is_dir (node_at now g))
    where
      either : (b : Bool) → (if b then up_named w None else None) ≡ None
      either true = refl
      either false = refl

  -- of all others: where they stood
  pub above-other : (j : ℕ) → (j ≡ n → ⊥) → (over ≡ Some j → ⊥) → above_in moved-next (Some j) ≡ above_in w (Some j)
  above-other j apart not-over =
      ap₂ (λ b pl. if j == top_at then Some (top, []) else if b then up_named w pl else None) (ap is_dir (node-moved j))
      (place-other j apart ∙ cleared-other gone_from over j not-over ∙ place-left j)

  pub mode-moved : (x : Name) → Mode (mode_in moved-next x (w.nodes.number_of x)) ≡ Mode (mode_in w x (w.nodes.number_of x))
  mode-moved x = go (w.nodes.number_of x)
    where
      go : (o : Option ℕ) → Mode (mode_in moved-next x o) ≡ Mode (mode_in w x o)
      go None = refl
      go (Some k) = ap (λ o. Mode (mode_of o)) (node-moved k)

  pub bytes-moved : (x : Name) → Bytes (bytes_in moved-next (w.nodes.number_of x)) ≡ Bytes (bytes_in w (w.nodes.number_of x))
  bytes-moved x = go (w.nodes.number_of x)
    where
      go : (o : Option ℕ) → Bytes (bytes_in moved-next o) ≡ Bytes (bytes_in w o)
      go None = refl
      go (Some k) = ap (λ o. Bytes (file_bytes o)) (node-moved k)

  -- the cell of where a directory stands, after what moved and after what it replaced

  abbrev middle : Option ℕ → Option (Name × Text)
  middle None = None
  middle (Some j) = if j == n then (if is_dir_what (what_of (node_at w.held.tree n)) then Some (w.nodes.name_of to, new) else None) else above_in w (Some j)

  -- what is no directory stands nowhere
  above-file : (k : ℕ) → (k == top_at) ≡ false → is_dir_what (what_of (node_at w.held.tree k)) ≡ false → is_there (node_at w.held.tree k) ≡ true
      → above_in w (Some k) ≡ None
  above-file k below file t =
      ap₂ (λ a b. if a then Some (top, []) else if b then up_named w (place_in (slice_get w.inodes k)) else None) below
      (sym (dirs-agree (node_at w.held.tree k) t) ∙ file)

  middle-at : (x : Name)
      → Above (middle (w.nodes.number_of x)) ≡ written cells
      (stands (record { name = w.nodes.name_of n; what = what_of (node_at w.held.tree n) }) (w.nodes.name_of to, new)) (AboveOf x) (at w (One (AboveOf x)))
  middle-at x =
      named-set (length w.inodes) w.nodes w.nodes_named (w.nodes.name_of n) n (node-back w n there) (λ o. Above (above_in w o)) (λ o. Above (middle o))
      (Above (if is_dir_what (what_of (node_at w.held.tree n)) then Some (w.nodes.name_of to, new) else None))
      (ap (λ b. Above (if b then (if is_dir_what (what_of (node_at w.held.tree n)) then Some (w.nodes.name_of to, new) else None) else above_in w (Some n)))
      (eq-eqb n n refl))
      (λ j apart. ap (λ b. Above (if b then (if is_dir_what (what_of (node_at w.held.tree n)) then Some (w.nodes.name_of to, new) else None) else above_in w
      (Some j))) (other j apart)) refl x
      ∙ go (is_dir_what (what_of (node_at w.held.tree n))) refl (same_name (w.nodes.name_of n) x) refl
    where
      other : (j : ℕ) → (j ≡ n → ⊥) → (j == n) ≡ false
      other j apart = by (j == n) refl
        where
          by : (b : Bool) → (j == n) ≡ b → b ≡ false
          by false e = refl
          by true e = absurd (apart (eqb-true j n e))

      go : (a : Bool) → is_dir_what (what_of (node_at w.held.tree n)) ≡ a → (b : Bool) → same_name (w.nodes.name_of n) x ≡ b
          → (if b then Above (if a then Some (w.nodes.name_of to, new) else None) else at w (One (AboveOf x)))
          ≡ written cells (if a then (AboveOf (w.nodes.name_of n), Sets (Above (Some (w.nodes.name_of to, new)))) ∷ [] else []) (AboveOf x)
          (at w (One (AboveOf x)))
      go true e b f = ap (λ c. if c then Above (Some (w.nodes.name_of to, new)) else at w (One (AboveOf x))) (sym f)
      go false e true f = ap Above (sym (above-file n (not-top w dir name n found) e there))
          ∙ ap (λ o. Above (above_in w o)) (sym (node-back w n there) ∙ ap w.nodes.number_of (name-is (w.nodes.name_of n) x f))
      go false e false f = refl

  final-other : (j : ℕ) → (over ≡ Some j → ⊥) → above_in moved-next (Some j) ≡ middle (Some j)
  final-other j not-over = go (j == n) refl
    where
      go : (b : Bool) → (j == n) ≡ b → above_in moved-next (Some j)
          ≡ (if b then (if is_dir_what (what_of (node_at w.held.tree n)) then Some (w.nodes.name_of to, new) else None) else above_in w (Some j))
      go true e = ap (λ k. above_in moved-next (Some k)) (eqb-true j n e) ∙ above-n
      go false e = above-other j (λ same. clash (j == n) (eq-eqb j n same) e) not-over

  final-at : (o : Option ℕ) → over ≡ o → (x : Name)
      → Above (above_in moved-next (w.nodes.number_of x)) ≡ written cells (gone (entry_named w o)) (AboveOf x) (Above (middle (w.nodes.number_of x)))
  final-at None e x = ap Above (go (w.nodes.number_of x))
    where
      go : (o : Option ℕ) → above_in moved-next o ≡ middle o
      go None = refl
      go (Some j) = final-other j (λ is. none-some j (sym e ∙ is))
  final-at (Some g) e x =
      named-set (length w.inodes) w.nodes w.nodes_named (w.nodes.name_of g) g (node-back w g there-g) (λ o. Above (middle o))
      (λ o. Above (above_in moved-next o)) (Above None)
      (ap Above (above-gone g e apart)) (λ j other. ap Above (final-other j (λ is. other (sym (same-some g j (sym e ∙ is)))))) refl x
      ∙ go (is_dir_what (what_of (node_at w.held.tree g))) refl (same_name (w.nodes.name_of g) x) refl
    where
      there-g : is_there (node_at w.held.tree g) ≡ true
      there-g = let up = child_stands w.held.tree to new g (is_over ∙ e) in ap is_there ((whole w).known (join up.0 new) g up.2).1

      apart : g ≡ n → ⊥
      apart same = clash (is_same (Some n) over) (ap (is_same (Some n)) (e ∙ ap Some same) ∙ eq-eqb n n refl) differ

      not-n : (g == n) ≡ false
      not-n = by (g == n) refl
        where
          by : (b : Bool) → (g == n) ≡ b → b ≡ false
          by false f = refl
          by true f = absurd (apart (eqb-true g n f))

      go : (a : Bool) → is_dir_what (what_of (node_at w.held.tree g)) ≡ a → (b : Bool) → same_name (w.nodes.name_of g) x ≡ b
          → (if b then Above None else Above (middle (w.nodes.number_of x)))
          ≡ written cells (if a then (AboveOf (w.nodes.name_of g), Sets (Above None)) ∷ [] else []) (AboveOf x) (Above (middle (w.nodes.number_of x)))
      go true f b h = ap (λ c. if c then Above None else Above (middle (w.nodes.number_of x))) (sym h)
      go false f true h =
          ap Above
          (sym (above-file g (not-top w to new g (is_over ∙ e)) f there-g)
          ∙ sym (ap (λ b. if b then (if is_dir_what (what_of (node_at w.held.tree n)) then Some (w.nodes.name_of to, new) else None) else above_in w (Some g))
          not-n))
          ∙ ap (λ o. Above (middle o)) (sym (node-back w g there-g) ∙ ap w.nodes.number_of (name-is (w.nodes.name_of g) x h))
      go false f false h = refl

  gone-skip : (o : Option Node) (p : Plain) (old : Value) → ((x : Name) → is_plain (AboveOf x) p ≡ false) → written cells (gone o) p old ≡ old
  gone-skip None p old e = refl
  gone-skip (Some m) p old e = skip (is_dir_what m.what) (AboveOf m.name, Sets (Above None)) p old (e m.name)

  rest-skip : (p : Plain) (old : Value) → ((x : Name) → is_plain (AboveOf x) p ≡ false)
      → written cells (stands (record { name = w.nodes.name_of n; what = what_of (node_at w.held.tree n) }) (w.nodes.name_of to, new)
      ++ gone (entry_named w over)) p old ≡ old
  rest-skip p old e =
      written-skip (gone (entry_named w over)) (is_dir_what (what_of (node_at w.held.tree n)))
      (AboveOf (w.nodes.name_of n), Sets (Above (Some (w.nodes.name_of to, new)))) p old (e (w.nodes.name_of n))
      ∙ gone-skip (entry_named w over) p old e

  abbrev pub move-writes : Writes
  move-writes =
      (EntryOf (w.nodes.name_of dir) name, Sets (Entry None))
      ∷ (EntryOf (w.nodes.name_of to) new, Sets (Entry (Some (record { name = w.nodes.name_of n; what = what_of (node_at w.held.tree n) }))))
      ∷ (stands (record { name = w.nodes.name_of n; what = what_of (node_at w.held.tree n) }) (w.nodes.name_of to, new) ++ gone (entry_named w over))

  pub moved-holds : (c : Plain) → at moved-next (One c) ≡ written cells move-writes c (at w (One c))
  moved-holds (EntryOf x y) = entry-moved x y ∙ sym (rest-skip (EntryOf x y) _ (λ z. refl))
  moved-holds (AboveOf x) =
      final-at over refl x ∙ ap (written cells (gone (entry_named w over)) (AboveOf x)) (middle-at x)
      ∙ sym (written-on (stands (record { name = w.nodes.name_of n; what = what_of (node_at w.held.tree n) }) (w.nodes.name_of to, new))
      (gone (entry_named w over)) (AboveOf x) (at w (One (AboveOf x))))
  moved-holds (ModeOf x) = mode-moved x ∙ sym (rest-skip (ModeOf x) _ (λ z. refl))
  moved-holds (BytesOf x) = bytes-moved x ∙ sym (rest-skip (BytesOf x) _ (λ z. refl))
  moved-holds (OpenOf x) = sym (rest-skip (OpenOf x) _ (λ z. refl))
  moved-holds (PipeOf x) = sym (rest-skip (PipeOf x) _ (λ z. refl))
  moved-holds OutputText = sym (rest-skip OutputText _ (λ z. refl))
  moved-holds ErrorText = sym (rest-skip ErrorText _ (λ z. refl))
  moved-holds (Used x y) = sym (rest-skip (Used x y) _ (λ z. refl))

  abbrev pub move-name : Becomes w (with_tree w.held now) move-writes
  move-name = record { next = moved-next; is = refl; holds = moved-holds; lasts = record { nodes = λ x n e. e; opens = λ x n e. e; pipes = λ x n e. e } }
