-- Unlink and Rmdir: a name that stands for nothing.
use Rattle.std.proofs.Common.{◌≡◌, ℕ, List, [], ◌∷◌, length, Bool, true, false, not, ◌&&◌, Option, Some, None, inl, inr, refl, sym, ◌∙◌, ap, ap₂, subst}
use Rattle.std.specs.Prelude.{◌==◌, if◌then◌else◌, slice_get}
use Rattle.std.specs.Option.{option_map}
use Rattle.std.proofs.lemmas.Bool.{eqb-true}
use Rattle.rk_base.specs.Text.{Text, same_text, is_root, root, join}
use Rattle.rk_base.specs.Canonical.{is_empty}
use Rattle.rk_base.proofs.PathLemmas.{join-not_root}
use Rattle.rk_base.proofs.WithinLemmas.{same_is, same_itself}
use Rattle.rk_base.specs.declared.errno.Errno.TheVariants.{NoEntry, NotDir, IsDir, Denied, NotEmpty, Invalid}
use Rattle.rk_calls.specs.Refs.{RefsHeld}
use Rattle.rk_calls.specs.declared.answer.Answer.TheVariants as answer
use Rattle.rk_tree.specs.declared.inode.Inode.{Inode}
use Rattle.rk_tree.specs.Entries.{is_dir}
use Rattle.rk_tree.specs.Hierarchy.{Hierarchy, node as node_at, top as top_at, child, names, removed}
use Rattle.rk_tree.specs.Inodes.{under, place_in, change, with_place, without_name}
use Rattle.rk_tree.specs.Node.{Node as TreeNode, File as AFile, Dir as ADir, Link as ALink}
use Rattle.rk_tree.specs.Refusals.{is_there, has_names, lacks_w}
use Rattle.rk_tree.proofs.BelowLemmas.{child_stands, child_named}
use Rattle.rk_tree.proofs.ChangedLemmas.{PutsUnder, takes_name, change_cases, under-change, place-change}
use Rattle.rk_tree.proofs.ReplacedLemmas.{removed-tree}
use Rattle.rk_tree.proofs.TreeLemmas.{IsTree}
use Rattle.rk_walk.specs.Places.{IsFound, StandsUnder, IsNameOf}
use Rattle.rk_walk.specs.declared.place.Here.{Here as TreeHere}
use Rattle.rk_kernel.specs.World.{with_tree}
use Rattle.rk_kernel.specs.Rows.{unless, done, at_place}
use Rattle.rk_kernel.specs.Rows.{strict as kernel_strict}
use Rattle.rk_kernel.specs.Changes.{removed_at}
use Rattle.rk_kernel.specs.Changes as changing
use Rattle.rk_kernel.specs.declared.description.Source as reading
use Rattle.rk_kernel.specs.declared.description.Source.TheVariants as source
use Rattle.rk_waves.specs.Programs.{One, All, Sets, Ends, written}
use Rattle.rk_feet.specs.Named.{Name, Plain, EntryOf, AboveOf, ModeOf, BytesOf, OpenOf, PipeOf, OutputText, ErrorText, Used}
use Rattle.rk_feet.specs.Named.{Entry, Above, Names, top}
use Rattle.rk_feet.specs.Naming.{same_name, AreNamed}
use Rattle.rk_feet.specs.NamingLemmas.{clash, both, name-is, name-self, named-set}
use Rattle.rk_feet.specs.CellLemmas.{cells}
use Rattle.rk_feet.specs.Course.{what_of, here_named}
use Rattle.rk_feet.specs.Checks.{strict, no}
use Rattle.rk_feet.specs.Changing.{removes, unlink_up, unlink_what, unlink_at, rmdir_names, rmdir_dir, rmdir_what, rmdir_up, rmdir_at}
use Rattle.rk_feet.specs.Changing.{is_dir as is_dir_what}
use Rattle.rk_feet.specs.World.{World, at, is_file, IsSource, entry_named, entry_in, up_named, above_in}
use Rattle.rk_feet.specs.Simulates.{Becomes, Simulates, ends_in}
use Rattle.rk_feet.specs.Laws as law
use Rattle.rk_feet.proofs.SimulationLemmas.{simulates-no, simulates-answer, simulates-reads}
use Rattle.rk_feet.proofs.NodeChangeLemmas.{length-change}
use Rattle.rk_feet.proofs.NodeMakingLemmas.{skip}
use Rattle.rk_feet.proofs.MakingCallLemmas.{simulates-writing}
use Rattle.rk_feet.proofs.PlaceLemmas.{by-path, node-back}
use Rattle.rk_feet.proofs.QuestionLemmas.{strict-absent, names-of}
use Rattle.rk_feet.proofs.ShowsLemmas.{whole, dir-back}
use Rattle.rk_feet.proofs.OptionLemmas.{same-some}
use Rattle.rk_feet.proofs.KindLemmas.{dirs-agree}
use Rattle.rk_feet.specs.Named.{Bytes}
use Rattle.rk_feet.specs.Named.{Mode}
use Rattle.rk_feet.specs.World.{bytes_in}
use Rattle.rk_feet.specs.World.{mode_in}
use Rattle.rk_kernel.specs.Rows.{lacks_w_above}
use Rattle.rk_tree.specs.Hierarchy.{file_bytes}
use Rattle.rk_tree.specs.Hierarchy.{mode_of}

-- what stands under a name isn't the root
pub not-top : (w : World) (d : ℕ) (name : Text) (n : ℕ) → child w.held.tree d name ≡ Some n → (n == top_at) ≡ false
not-top w d name n found = go (n == top_at) refl
  where
    go : (b : Bool) → (n == top_at) ≡ b → b ≡ false
    go false e = refl
    go true e =
        let up = child_stands w.held.tree d name n found in
        let same : join up.0 name ≡ root = (whole w).once (join up.0 name) root n up.2 ((whole w).root_at ∙ ap Some (sym (eqb-true n top_at e)))
        (ap (λ k. is_dir (node_at w.held.tree k)) (eqb-true n top_at e) ∙ (whole w).root_dir) in
        absurd (clash (is_root (join up.0 name)) (ap is_root same) (join-not_root up.0 name (child_named w.held.tree d name n found)))

module _ (w : World) (d n : ℕ) (name : Text) (dir : is_dir (node_at w.held.tree d) ≡ true) (found : child w.held.tree d name ≡ Some n)
    (there : is_there (node_at w.held.tree n) ≡ true) (bare : has_names w.held.tree n ≡ false) where
  abbrev pub less : List Inode
  less = change (without_name name) w.inodes d

  abbrev pub left : List Inode
  left = change (with_place None) (change (without_name name) w.inodes d) n

  abbrev pub now : Hierarchy
  now = removed w.held.tree d name

  pub left-tree : IsTree left now
  left-tree = removed-tree w.inodes w.held.tree d n name w.tree found bare

  pub left-length : length left ≡ length w.inodes
  left-length = length-change (with_place None) less n ∙ length-change (without_name name) w.inodes d

  pub node-left : (j : ℕ) → node_at now j ≡ node_at w.held.tree j
  unfolding removed
  node-left j = refl

  pub sources-left : (x : reading.Source) → IsSource w.held.tree w.held.pipes x → IsSource now w.held.pipes x
  sources-left (source.Node m) h = ap is_file (node-left m) ∙ h
  sources-left (source.Pipe q) h = h
  sources-left source.Output h = h
  sources-left source.ErrorText h = h
  sources-left source.Nothing h = h

  abbrev pub left-next : World
  left-next = record w {
    held = with_tree w.held now;
    inodes = left;
    tree = left-tree;
    nodes_named = subst (λ c. AreNamed c w.nodes) (sym left-length) w.nodes_named;
    are_open = λ k o e. record { stands = sources-left o.source (w.are_open k o e).stands; plain = (w.are_open k o e).plain };
  }

  takes : PutsUnder w.inodes less d name None
  takes = takes_name w.inodes d name

  under-left : (j : ℕ) (y : Text) → under left j y ≡ under less j y
  under-left j y = under-change (with_place None) less n j y (λ it. refl)

  entry-kept : (o : Option ℕ) → entry_named left-next o ≡ entry_named w o
  entry-kept None = refl
  entry-kept (Some k) = ap (λ x. Some (record { name = w.nodes.name_of k; what = what_of x })) (node-left k)

  entry-left : (x : Name) (y : Text)
      → Entry (entry_in left-next y (w.nodes.number_of x))
      ≡ (if same_name (w.nodes.name_of d) x && same_text name y then Entry None else Entry (entry_in w y (w.nodes.number_of x)))
  entry-left x y = go (w.nodes.number_of x) refl (same_name (w.nodes.name_of d) x && same_text name y) refl
    where
      is-d : (j : ℕ) → w.nodes.number_of x ≡ Some j → same_name (w.nodes.name_of d) x ≡ true → j ≡ d
      is-d j e s = same-some j d (sym e ∙ ap w.nodes.number_of (sym (name-is (w.nodes.name_of d) x s)) ∙ dir-back w d dir)

      go : (o : Option ℕ) → w.nodes.number_of x ≡ o → (b : Bool) → (same_name (w.nodes.name_of d) x && same_text name y) ≡ b
          → Entry (entry_in left-next y o) ≡ (if b then Entry None else Entry (entry_in w y o))
      go None e true f = refl
      go None e false f = refl
      go (Some j) e true f =
          let two = both (same_name (w.nodes.name_of d) x) (same_text name y) f in
          ap (λ o. Entry (entry_named left-next o)) (under-left j y ∙ ap₂ (λ i t. under less i t) (is-d j e two.0) (sym (same_is name y two.1)) ∙ takes.here)
      go (Some j) e false f =
          ap (λ o. Entry (entry_named left-next o))
          (under-left j y ∙ takes.others j y (λ jd yn. clash _
          (ap₂ ◌&&◌ (ap (λ k. same_name k x) (ap w.nodes.name_of (sym jd) ∙ (w.nodes_named.there x j e).1) ∙ name-self x)
          (ap (same_text name) yn ∙ same_itself name)) f))
          ∙ ap Entry (entry-kept (under w.inodes j y))

  no-place : (o : Option Inode) → place_in (option_map (with_place None) o) ≡ None
  no-place None = refl
  no-place (Some it) = refl

  placeless : (j : ℕ) → j ≡ n → place_in (slice_get left j) ≡ None
  placeless j same = elim (change_cases (with_place None) less n j) [
    | inl here ↦ ap place_in here.1 ∙ no-place (slice_get less n)
    | inr other ↦ absurd (other.0 same)
  ]

  place-left : (j : ℕ) → (j ≡ n → ⊥) → place_in (slice_get left j) ≡ place_in (slice_get w.inodes j)
  place-left j apart = elim (change_cases (with_place None) less n j) [
    | inl here ↦ absurd (apart here.0)
    | inr other ↦ ap place_in other.1 ∙ place-change (without_name name) w.inodes d j (λ it. refl)
  ]

  above-kept : (j : ℕ) → (j ≡ n → ⊥) → above_in left-next (Some j) ≡ above_in w (Some j)
  above-kept j apart = ap₂ (λ b place. if j == top_at then Some (top, []) else if b then up_named w place else None) (ap is_dir (node-left j))
      (place-left j apart)

  either-none : (b : Bool) → (if b then up_named w None else None) ≡ None
  either-none true = refl
  either-none false = refl

  above-gone : above_in left-next (Some n) ≡ None
  above-gone =
      ap₂ (λ a place. if a then Some (top, []) else if is_dir (node_at now n) then up_named w place else None) (not-top w d name n found) (placeless n refl)
      ∙ either-none (is_dir (node_at now n))

  -- a node that is no directory stood nowhere
  above-file : is_dir (node_at w.held.tree n) ≡ false → above_in w (Some n) ≡ None
  above-file file = ap₂ (λ a b. if a then Some (top, []) else if b then up_named w (place_in (slice_get w.inodes n)) else None) (not-top w d name n found) file

  above-left : (x : Name) → Above (above_in left-next (w.nodes.number_of x))
      ≡ (if same_name (w.nodes.name_of n) x then Above None else Above (above_in w (w.nodes.number_of x)))
  above-left x =
      named-set (length w.inodes) w.nodes w.nodes_named (w.nodes.name_of n) n (node-back w n there) (λ o. Above (above_in w o))
      (λ o. Above (above_in left-next o)) (Above None)
      (ap Above above-gone) (λ j apart. ap Above (above-kept j apart)) refl x

  above-written : (b : Bool) → is_dir (node_at w.held.tree n) ≡ b → (x : Name)
      → (if same_name (w.nodes.name_of n) x then Above None else at w (One (AboveOf x)))
      ≡ written cells (if b then (AboveOf (w.nodes.name_of n), Sets (Above None)) ∷ [] else []) (AboveOf x) (at w (One (AboveOf x)))
  above-written true e x = refl
  above-written false e x = go (same_name (w.nodes.name_of n) x) refl
    where
      go : (b : Bool) → same_name (w.nodes.name_of n) x ≡ b → (if b then Above None else at w (One (AboveOf x))) ≡ at w (One (AboveOf x))
      go true f = ap Above (sym (above-file e))
          ∙ ap (λ o. Above (above_in w o)) (sym (node-back w n there) ∙ ap w.nodes.number_of (name-is (w.nodes.name_of n) x f))
      go false f = refl

  pub left-holds : (c : Plain) → at left-next (One c)
      ≡ written cells (removes (w.nodes.name_of d) name (record { name = w.nodes.name_of n; what = what_of (node_at w.held.tree n) })) c (at w (One c))
  left-holds (EntryOf x y) = entry-left x y ∙ sym (skip (is_dir_what (what_of (node_at w.held.tree n))) _ (EntryOf x y) _ refl)
  left-holds (AboveOf x) = above-left x ∙ above-written (is_dir_what (what_of (node_at w.held.tree n))) (sym (dirs-agree (node_at w.held.tree n) there)) x
  left-holds (ModeOf x) = go (w.nodes.number_of x) ∙ sym (skip (is_dir_what (what_of (node_at w.held.tree n))) _ (ModeOf x) _ refl)
    where
      go : (o : Option ℕ) → Mode (mode_in left-next x o) ≡ Mode (mode_in w x o)
      go None = refl
      go (Some k) = ap (λ o. Mode (mode_of o)) (node-left k)
  left-holds (BytesOf x) = go (w.nodes.number_of x) ∙ sym (skip (is_dir_what (what_of (node_at w.held.tree n))) _ (BytesOf x) _ refl)
    where
      go : (o : Option ℕ) → Bytes (bytes_in left-next o) ≡ Bytes (bytes_in w o)
      go None = refl
      go (Some k) = ap (λ o. Bytes (file_bytes o)) (node-left k)
  left-holds (OpenOf x) = sym (skip (is_dir_what (what_of (node_at w.held.tree n))) _ (OpenOf x) _ refl)
  left-holds (PipeOf x) = sym (skip (is_dir_what (what_of (node_at w.held.tree n))) _ (PipeOf x) _ refl)
  left-holds OutputText = sym (skip (is_dir_what (what_of (node_at w.held.tree n))) _ OutputText _ refl)
  left-holds ErrorText = sym (skip (is_dir_what (what_of (node_at w.held.tree n))) _ ErrorText _ refl)
  left-holds (Used x y) = sym (skip (is_dir_what (what_of (node_at w.held.tree n))) _ (Used x y) _ refl)

  abbrev pub take-name : Becomes w (with_tree w.held now)
      (removes (w.nodes.name_of d) name (record { name = w.nodes.name_of n; what = what_of (node_at w.held.tree n) }))
  take-name = record { next = left-next; is = refl; holds = left-holds; lasts = record { nodes = λ x n e. e; opens = λ x n e. e; pipes = λ x n e. e } }

-- Unlink

no-names : (w : World) (n : ℕ) → is_dir (node_at w.held.tree n) ≡ false → has_names w.held.tree n ≡ false
no-names w n file = ap (λ b. b && not (is_empty (names w.held.tree n))) file

up-of : World → Option (ℕ × Text) → Option (Name × Text)
up-of w None = None
up-of w (Some up) = Some (w.nodes.name_of up.0, up.1)

unlink-up :
    (w : World) (refs : RefsHeld) (n : ℕ) → is_there (node_at w.held.tree n) ≡ true → is_dir (node_at w.held.tree n) ≡ false → (up : Option (ℕ × Text))
    → StandsUnder w.held.tree n up
    → Simulates w (unless w.held refs ((lacks_w_above w.held up, Denied) ∷ []) (done w.held refs (removed_at w.held.tree up)))
    (ends_in w (unlink_up (record { name = w.nodes.name_of n; what = what_of (node_at w.held.tree n) })
    (Rattle.rk_feet.specs.Course.up_named w.held.tree (at w) w.nodes.name_of up)))
unlink-up w refs n there file None under = simulates-answer w refs answer.Done
unlink-up w refs n there file (Some up) under =
    simulates-writing w refs up.0 (done w.held refs (removed w.held.tree up.0 up.1))
    (Ends answer.Done (removes (w.nodes.name_of up.0) up.1 (record { name = w.nodes.name_of n; what = what_of (node_at w.held.tree n) })))
    under.holds.in_dir
    (record { answer = refl; after = take-name w up.0 n up.1 under.holds.in_dir under.child_is there (no-names w n file) })

unlink-node :
    (w : World) (refs : RefsHeld) (n : ℕ) (up : Option (ℕ × Text)) → StandsUnder w.held.tree n up → (o : Option TreeNode) → node_at w.held.tree n ≡ o
    → is_there o ≡ true
    → Simulates w (unless w.held refs ((is_dir o, IsDir) ∷ (lacks_w_above w.held up, Denied) ∷ []) (done w.held refs (removed_at w.held.tree up)))
    (ends_in w (unlink_what (record { name = w.nodes.name_of n; what = what_of (node_at w.held.tree n) })
    (Rattle.rk_feet.specs.Course.up_named w.held.tree (at w) w.nodes.name_of up) (what_of o)))
unlink-node w refs n up under None is h = absurd (clash false h refl)
unlink-node w refs n up under (Some (AFile mode content)) is h = unlink-up w refs n (ap is_there is) (ap is_dir is) up under
unlink-node w refs n up under (Some (ADir mode)) is h = simulates-no w refs IsDir
unlink-node w refs n up under (Some (ALink text)) is h = unlink-up w refs n (ap is_there is) (ap is_dir is) up under

pub unlinks : law.Unlinks
unlinks w refs path =
    by-path w (strict unlink_at) (λ spot. at_place w.held refs (kernel_strict spot) (changing.unlink_at w.held refs)) path false (λ e. simulates-no w refs e)
    (λ here is plain. unlink-node w refs here.node here.up is.under (node_at w.held.tree here.node) refl is.there)
    (λ dir name slash is stands. strict-absent w refs (changing.unlink_at w.held refs) unlink_at dir name slash (simulates-no w refs NoEntry))

-- Rmdir

rmdir-names : (w : World) (refs : RefsHeld) (n : ℕ) (up : ℕ × Text) → IsNameOf w.held.tree n up.0 up.1 → (mode : ℕ) → node_at w.held.tree n ≡ Some (ADir mode)
    → (b : Bool) → has_names w.held.tree n ≡ b
    → Simulates w (unless w.held refs ((b, NotEmpty) ∷ (lacks_w w.held.tree up.0, Denied) ∷ []) (done w.held refs (removed w.held.tree up.0 up.1)))
    (ends_in w (if b then no NotEmpty else rmdir_dir (record { name = w.nodes.name_of n; what = what_of (node_at w.held.tree n) })
    (w.nodes.name_of up.0, up.1)))
rmdir-names w refs n up under mode is true e = simulates-no w refs NotEmpty
rmdir-names w refs n up under mode is false e =
    simulates-writing w refs up.0 (done w.held refs (removed w.held.tree up.0 up.1))
    (Ends answer.Done (removes (w.nodes.name_of up.0) up.1 (record { name = w.nodes.name_of n; what = what_of (node_at w.held.tree n) })))
    under.holds.in_dir
    (record { answer = refl; after = take-name w up.0 n up.1 under.holds.in_dir under.child_is under.there e })

rmdir-node : (w : World) (refs : RefsHeld) (n : ℕ) (up : ℕ × Text) → IsNameOf w.held.tree n up.0 up.1 → (o : Option TreeNode) → node_at w.held.tree n ≡ o
    → is_there o ≡ true
    → Simulates w (unless w.held refs ((not (is_dir o), NotDir) ∷ (has_names w.held.tree n, NotEmpty) ∷ (lacks_w w.held.tree up.0, Denied) ∷ [])
    (done w.held refs (removed w.held.tree up.0 up.1)))
    (ends_in w (rmdir_what (record { name = w.nodes.name_of n; what = what_of (node_at w.held.tree n) }) (w.nodes.name_of up.0, up.1) (what_of o)))
rmdir-node w refs n up under None is h = absurd (clash false h refl)
rmdir-node w refs n up under (Some (AFile mode content)) is h = simulates-no w refs NotDir
rmdir-node w refs n up under (Some (ADir mode)) is h =
    simulates-reads w _ (All (w.nodes.name_of n)) (Names (names w.held.tree n))
    (rmdir_names (record { name = w.nodes.name_of n; what = what_of (node_at w.held.tree n) }) (w.nodes.name_of up.0, up.1)) (names-of w n (ap is_dir is))
    (subst (λ b. Simulates w (unless w.held refs ((has_names w.held.tree n, NotEmpty) ∷ (lacks_w w.held.tree up.0, Denied) ∷ [])
    (done w.held refs (removed w.held.tree up.0 up.1)))
    (ends_in w (if b then no NotEmpty else rmdir_dir (record { name = w.nodes.name_of n; what = what_of (node_at w.held.tree n) })
    (w.nodes.name_of up.0, up.1))))
    (ap (λ o. is_dir o && not (is_empty (names w.held.tree n))) is) (rmdir-names w refs n up under mode is (has_names w.held.tree n) refl))
rmdir-node w refs n up under (Some (ALink text)) is h = simulates-no w refs NotDir

rmdir-up : (w : World) (refs : RefsHeld) (here : TreeHere) → IsFound w.held.tree here.node here.up → (up : Option (ℕ × Text)) → here.up ≡ up
    → Simulates w (unless w.held refs ((not (is_there up), Invalid) ∷ (not (is_dir (node_at w.held.tree here.node)), NotDir)
    ∷ (has_names w.held.tree here.node, NotEmpty) ∷ (lacks_w_above w.held up, Denied) ∷ []) (done w.held refs (removed_at w.held.tree up)))
    (ends_in w (rmdir_up (record { name = w.nodes.name_of here.node; what = what_of (node_at w.held.tree here.node) })
    (Rattle.rk_feet.specs.Course.up_named w.held.tree (at w) w.nodes.name_of up)))
rmdir-up w refs here is None e = simulates-no w refs Invalid
rmdir-up w refs here is (Some up) e = rmdir-node w refs here.node up (subst (StandsUnder w.held.tree here.node) e is.under) (node_at w.held.tree here.node)
    refl is.there

pub removes-dirs : law.RemovesDirs
removes-dirs w refs path =
    by-path w (strict rmdir_at) (λ spot. at_place w.held refs (kernel_strict spot) (changing.rmdir_at w.held refs)) path false (λ e. simulates-no w refs e)
    (λ here is plain. rmdir-up w refs here is here.up refl)
    (λ dir name slash is stands. strict-absent w refs (changing.rmdir_at w.held refs) rmdir_at dir name slash (simulates-no w refs NoEntry))
