-- Trees in which a node is another one of its kind, and trees with a name less.
use Rattle.std.proofs.Common.{◌≡◌, ℕ, zero, suc, List, [], ◌∷◌, true, false, inl, inr, Option, Some, None, refl, sym, ap, subst, ◌∙◌}
use Rattle.std.specs.Prelude.{slice_get, slice_set}
use Rattle.std.specs.Option.{option_map, option_and_then}
use Rattle.std.specs.FinMap.{get, remove}
use Rattle.rk_base.specs.Text.{Text, join}
use Rattle.rk_base.specs.Canonical.{is_name}
use Rattle.rk_base.proofs.PathLemmas.{join-not_root}
use Rattle.rk_base.proofs.WithinLemmas.{within-itself, within-down}
use Rattle.rk_tree.specs.Node.{Node}
use Rattle.rk_tree.specs.declared.inode.Inode.{Inode}
use Rattle.rk_tree.specs.Entries.{is_dir, IsFit}
use Rattle.rk_tree.specs.Hierarchy.{Hierarchy, Paths, node, number_at, path_of, child, with_path, removed, changed_at, change_node}
use Rattle.rk_tree.specs.Moves.{IsBare}
use Rattle.rk_tree.specs.Inodes.{nodes_of, hierarchy_of, under, place_in, change, as_node, with_place, without_name, IsPlace, HavePlaces, AreAttached}
use Rattle.rk_tree.specs.Inodes as nodes
use Rattle.rk_tree.specs.Refusals.{has_names}
use Rattle.rk_tree.specs.Whole.{IsWhole}
use Rattle.rk_tree.proofs.BelowLemmas.{none_some, same_number, child_named, child_stands, child_dir}
use Rattle.rk_tree.proofs.ChangedLemmas.{PutsUnder, takes_name, change_cases, entries-change, place-change, under-change}
use Rattle.rk_tree.proofs.HierarchyLemmas.{path_stands}
use Rattle.rk_tree.proofs.RemovedLemmas.{stays_there, stood_there, gone-whole, bare_path}
use Rattle.rk_tree.proofs.ShownLemmas.{Leads, Steps, steps, leads}
use Rattle.rk_tree.proofs.StepsLemmas.{steps-same, steps-removed, both_or, not_up}
use Rattle.rk_tree.proofs.TreeLemmas.{Kept, IsTree, over}
use Rattle.rk_tree.proofs.WholeLemmas.{changed-whole}

-- Another node of the same kind.

entry_of : (ns : List Inode) (k : ℕ) → slice_get (nodes_of ns) k ≡ option_map (λ m. m.node) (slice_get ns k)
entry_of [] zero = refl
entry_of [] (suc k) = refl
entry_of (x ∷ ns) zero = refl
entry_of (x ∷ ns) (suc k) = entry_of ns k

entries_set : (ns : List Inode) (n : ℕ) (new : Inode) → nodes_of (slice_set ns n new) ≡ slice_set (nodes_of ns) n new.node
entries_set [] n new = refl
entries_set (x ∷ ns) zero new = refl
entries_set (x ∷ ns) (suc n) new = ap (λ (es : List Node). x.node ∷ es) (entries_set ns n new)

entries_with : (f : Node → Node) (ns : List Inode) (n : ℕ) (o : Option Inode) → nodes_of (nodes.changed_at (as_node f) ns n o) ≡ changed_at f (nodes_of ns) n (option_map (λ m. m.node) o)
entries_with f ns n None = refl
entries_with f ns n (Some it) = entries_set ns n (as_node f it)

kind_with : (f : Node → Node) (o : Option Inode) → ((it : Node) → is_dir (Some (f it)) ≡ is_dir (Some it)) → is_dir (option_map (λ m. m.node) (option_map (as_node f) o)) ≡ is_dir (option_map (λ m. m.node) o)
kind_with f None alike = refl
kind_with f (Some it) alike = alike it.node

module _ (ns : List Inode) (paths : Paths) (l : Leads ns paths) (kept : Kept paths ns) (f : Node → Node) (n : ℕ) (alike : (it : Node) → is_dir (Some (f it)) ≡ is_dir (Some it)) (fits : (it : Node) → IsFit it → IsFit (f it)) where
  entry_view : hierarchy_of paths (change (as_node f) ns n) ≡ change_node (hierarchy_of paths ns) n f
  entry_view = ap (λ (es : List Node). record { paths = paths; nodes = es }) (entries_with f ns n (slice_get ns n) ∙ ap (changed_at f (nodes_of ns) n) (sym (entry_of ns n)))

  entry_kind : (k : ℕ) → is_dir (slice_get (nodes_of (change (as_node f) ns n)) k) ≡ is_dir (slice_get (nodes_of ns) k)
  entry_kind k = ap is_dir (entry_of (change (as_node f) ns n) k) ∙ (elim (change_cases (as_node f) ns n k) [
    | inl here ↦ ap (λ (o : Option Inode). is_dir (option_map (λ m. m.node) o)) here.1 ∙ kind_with f (slice_get ns n) alike ∙ ap (λ (j : ℕ). is_dir (option_map (λ m. m.node) (slice_get ns j))) (sym here.0)
    | inr other ↦ ap (λ (o : Option Inode). is_dir (option_map (λ m. m.node) o)) other.1
  ]) ∙ sym (ap is_dir (entry_of ns k))

  entry_whole : IsWhole (hierarchy_of paths (change (as_node f) ns n))
  entry_whole = subst IsWhole (sym entry_view) (changed-whole (hierarchy_of paths ns) n f alike fits kept.0)

  entry_core : IsTree (change (as_node f) ns n) (change_node (hierarchy_of paths ns) n f)
  entry_core = record {
    paths = paths;
    leads = leads (change (as_node f) ns n) paths entry_whole (steps-same ns (change (as_node f) ns n) paths (λ k x. under-change (as_node f) ns n k x (λ it. refl)) (steps ns paths l));
    kept = (
      entry_whole,
      λ k below d. subst (λ (p : Option (ℕ × Text)). IsPlace paths k p) (sym (place-change (as_node f) ns n k (λ it. refl))) (kept.1 k below (sym (entry_kind k) ∙ d)),
      λ k x m on. kept.2 k x m (sym (under-change (as_node f) ns n k x (λ it. refl)) ∙ on),
    );
    is = entry_view;
  }

pub entry-tree : (ns : List Inode) (tree : Hierarchy) (f : Node → Node) (n : ℕ) → IsTree ns tree → ((it : Node) → is_dir (Some (f it)) ≡ is_dir (Some it)) → ((it : Node) → IsFit it → IsFit (f it)) → IsTree (change (as_node f) ns n) (change_node tree n f)
entry-tree ns tree f n t alike fits = over ns tree t (λ h. IsTree (change (as_node f) ns n) (change_node h n f)) (entry_core ns t.paths t.leads t.kept f n alike fits)

-- A name less.

removed_there : (tree : Hierarchy) (dir : ℕ) (path name : Text) → path_of tree dir ≡ Some path → removed tree dir name ≡ record tree { paths = remove tree.paths (join path name) }
unfolding removed
removed_there tree dir path name at = ap (λ (o : Option Text). record tree { paths = with_path o (λ p. remove tree.paths (join p name)) tree.paths }) at

module _ (ns : List Inode) (paths : Paths) (l : Leads ns paths) (kept : Kept paths ns) (dir n : ℕ) (name : Text) (found : child (hierarchy_of paths ns) dir name ≡ Some n) (none : has_names (hierarchy_of paths ns) n ≡ false) where
  abbrev here : Hierarchy
  here = hierarchy_of paths ns

  abbrev less : List Inode
  less = change (without_name name) ns dir

  abbrev after : List Inode
  after = change (with_place None) less n

  named : is_name name ≡ true
  named = child_named here dir name n found

  p : (path : Text) × (path_of here dir ≡ Some path) × (number_at here (join path name) ≡ Some n)
  p = child_stands here dir name n found

  abbrev gone : Text
  gone = join p.0 name

  at : get paths p.0 ≡ Some dir
  at = path_stands here dir p.0 p.1

  in_dir : is_dir (node here dir) ≡ true
  in_dir = child_dir here dir name n kept.0 named found

  bare : IsBare here gone
  bare = bare_path here gone n kept.0 (kept.0.canonical gone n p.2) (join-not_root p.0 name named) p.2 none

  -- below it nothing stands
  below_none : (x : Text) → is_name x ≡ true → get paths (join gone x) ≡ None
  below_none x nx = bare (join gone x) (within-down gone gone x (within-itself gone)) (λ e. not_up gone x nx (sym e))

  puts : PutsUnder ns less dir name None
  puts = takes_name ns dir name

  after_under : (k : ℕ) (x : Text) → under after k x ≡ under less k x
  after_under k x = under-change (with_place None) less n k x (λ it. refl)

  after_entries : nodes_of after ≡ nodes_of ns
  after_entries = entries-change (with_place None) less n (λ it. refl) ∙ entries-change (without_name name) ns dir (λ it. refl)

  removed_steps : Steps after (remove paths gone)
  removed_steps = steps-same less after (remove paths gone) after_under
      (steps-removed ns less paths p.0 name dir (kept.0.canonical p.0 dir at) named at (λ q on. kept.0.once q p.0 dir on at in_dir) below_none puts (steps ns paths l))

  removed_view : hierarchy_of (remove paths gone) after ≡ removed here dir name
  removed_view = ap (λ (es : List Node). record { paths = remove paths gone; nodes = es }) after_entries ∙ sym (removed_there here dir p.0 name p.1)

  removed_whole : IsWhole (hierarchy_of (remove paths gone) after)
  removed_whole = subst IsWhole (sym (ap (λ (es : List Node). record { paths = remove paths gone; nodes = es }) after_entries)) (gone-whole here gone kept.0 (join-not_root p.0 name named) bare)

  -- the path of a directory in which a name stands isn't gone
  stays_up : (q : Text) (k : ℕ) (x : Text) (m : ℕ) → get paths q ≡ Some k → is_name x ≡ true → get paths (join q x) ≡ Some m → get (remove paths gone) q ≡ Some k
  stays_up q k x m on nx there = stays_there paths gone q k (λ e. none_some (below_none x nx) (ap (λ (t : Text). get paths (join t x)) (sym e) ∙ there)) on

  place_left : (k : ℕ) (place : Option (ℕ × Text)) → (k ≡ n → ⊥) → IsPlace paths k place → IsPlace (remove paths gone) k place
  place_left k None other h = λ q on. h q (stood_there paths gone q k on).1
  place_left k (Some place) other h = (
    h.0,
    h.1,
    stays_up h.1 place.0 place.1 k h.2 h.0 h.3,
    stays_there paths gone (join h.1 place.1) k (λ e. other (same_number k n h.3 (ap (get paths) e ∙ p.2))) h.3,
  )

  removed_places : HavePlaces (remove paths gone) after
  removed_places k below d =
      let old : is_dir (slice_get (nodes_of ns) k) ≡ true = ap (λ (es : List Node). is_dir (slice_get es k)) (sym after_entries) ∙ d in
      elim (change_cases (with_place None) less n k) [
        | inl here ↦ subst (λ (q : Option (ℕ × Text)). IsPlace (remove paths gone) k q) (sym (ap place_in here.1 ∙ no_place (slice_get less n)))
            (λ q on.
            let stood = stood_there paths gone q k on in
            stood.0 (kept.0.once q gone k stood.1 (p.2 ∙ ap (λ (j : ℕ). Some j) (sym here.0)) old))
        | inr other ↦ subst (λ (q : Option (ℕ × Text)). IsPlace (remove paths gone) k q) (sym (ap place_in other.1 ∙ place-change (without_name name) ns dir k (λ it. refl)))
            (place_left k (place_in (slice_get ns k)) other.0 (kept.1 k below old))
      ] where
        no_place : (o : Option Inode) → place_in (option_map (with_place None) o) ≡ None
        no_place None = refl
        no_place (Some it) = refl

  removed_attached : AreAttached (remove paths gone) after
  removed_attached d x m on = elim (both_or d dir x name) [
    | inl here ↦ absurd (none_some (ap (λ (j : ℕ). under less j x) here.0 ∙ ap (under less dir) here.1 ∙ puts.here) (sym (after_under d x) ∙ on))
    | inr other ↦
        let was : under ns d x ≡ Some m = sym (puts.others d x other) ∙ sym (after_under d x) ∙ on in
        let a = kept.2 d x m was in
        (a.0, a.1, stays_up a.1 d x m a.2 a.0 (steps ns paths l a.1 x (kept.0.canonical a.1 d a.2) a.0 ∙ ap (λ (o : Option ℕ). option_and_then (λ j. under ns j x) o) a.2 ∙ was))
  ]

  removed_core : IsTree after (removed here dir name)
  removed_core = record {
    paths = remove paths gone;
    leads = leads after (remove paths gone) removed_whole removed_steps;
    kept = (removed_whole, removed_places, removed_attached);
    is = removed_view;
  }

pub removed-tree : (ns : List Inode) (tree : Hierarchy) (dir n : ℕ) (name : Text) → IsTree ns tree → child tree dir name ≡ Some n → has_names tree n ≡ false → IsTree (change (with_place None) (change (without_name name) ns dir) n) (removed tree dir name)
removed-tree ns tree dir n name t = over ns tree t (λ h. child h dir name ≡ Some n → has_names h n ≡ false → IsTree (change (with_place None) (change (without_name name) ns dir) n) (removed h dir name))
    (λ found none. removed_core ns t.paths t.leads t.kept dir n name found none)
