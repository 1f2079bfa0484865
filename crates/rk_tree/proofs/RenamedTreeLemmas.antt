-- Trees in which a name went elsewhere.
use Rattle.std.proofs.Common.{◌≡◌, ℕ, List, Bool, true, false, inl, inr, Option, Some, None, refl, sym, ap, subst, ◌∙◌}
use Rattle.std.specs.Prelude.{slice_get}
use Rattle.std.specs.Option.{option_map, option_and_then}
use Rattle.std.specs.FinMap.{get}
use Rattle.std.proofs.lemmas.Bool.{eq-eqb}
use Rattle.rk_base.specs.Text.{Text, join, is_within, moved}
use Rattle.rk_base.specs.Canonical.{is_canonical, is_name}
use Rattle.rk_base.proofs.MovedLemmas.{moved-join}
use Rattle.rk_base.proofs.WithinLemmas.{within-itself, within-down, within-join, stem-back}
use Rattle.rk_tree.specs.Node.{Node, File, Dir, Link}
use Rattle.rk_tree.specs.declared.inode.Inode.{Inode}
use Rattle.rk_tree.specs.Entries.{is_dir}
use Rattle.rk_tree.specs.Hierarchy.{Hierarchy, Paths, node, number_at, path_of, child, is_same, moved_paths, renamed}
use Rattle.rk_tree.specs.Moves.{Moves}
use Rattle.rk_tree.specs.Inodes.{nodes_of, hierarchy_of, under, place_in, place_of, change, cleared, with_name, with_place, without_name, IsPlace, HavePlaces, AreAttached}
use Rattle.rk_tree.specs.Refusals.{first_of, is_there, rename_checks}
use Rattle.rk_tree.specs.Whole.{IsWhole, MayHold}
use Rattle.rk_tree.proofs.BelowLemmas.{none_some, same_number, child_at, child_named, child_stands, child_dir}
use Rattle.rk_tree.proofs.ChangedLemmas.{PutsUnder, puts_name, takes_name, change_cases, entries-change, place-change, under-change, node_there}
use Rattle.rk_tree.proofs.HierarchyLemmas.{path_stands}
use Rattle.rk_tree.proofs.MovedLemmas.{there, back, stays, moved-whole}
use Rattle.rk_tree.proofs.RefusalLemmas.{there_is}
use Rattle.rk_tree.proofs.RenamedLemmas.{may_move, renamed_there}
use Rattle.rk_tree.proofs.ShownLemmas.{Leads, Steps, steps, leads}
use Rattle.rk_tree.proofs.StepsLemmas.{MovesUnder, steps-same, steps-moved, to_now, target_now, both_or, not_up}
use Rattle.rk_tree.proofs.TreeLemmas.{Kept, IsTree, over}
use Rattle.rk_tree.proofs.WholeLemmas.{dir_node}

clash : (b : Bool) → b ≡ true → b ≡ false → ⊥
clash b t f = cc

-- What the places change.

cleared_under : (ns : List Inode) (o : Option ℕ) (k : ℕ) (x : Text) → under (cleared ns o) k x ≡ under ns k x
cleared_under ns None k x = refl
cleared_under ns (Some m) k x = under-change (with_place None) ns m k x (λ it. refl)

cleared_entries : (ns : List Inode) (o : Option ℕ) → nodes_of (cleared ns o) ≡ nodes_of ns
cleared_entries ns None = refl
cleared_entries ns (Some m) = entries-change (with_place None) ns m (λ it. refl)

dir_place : (o : Option Node) (to : ℕ) (new : Text) → is_dir o ≡ true → option_and_then (λ it. place_of it to new) o ≡ Some (to, new)
dir_place None to new d = cc
dir_place (Some (File mode content)) to new d = cc
dir_place (Some (Dir mode)) to new d = refl
dir_place (Some (Link text)) to new d = cc

apart_numbers : (n : ℕ) (o : Option ℕ) → is_same (Some n) o ≡ false → o ≡ Some n → ⊥
apart_numbers n None a is = none_some refl is
apart_numbers n (Some m) a is = clash _ (eq-eqb n m (same_number {o = Some m} n m is refl)) a

module _ (ns : List Inode) (paths : Paths) (l : Leads ns paths) (kept : Kept paths ns) (dir n to : ℕ) (name new : Text) (gone : Option ℕ) (place : Option (ℕ × Text)) (renew : is_name new ≡ true) (found : child (hierarchy_of paths ns) dir name ≡ Some n) (is_over : child (hierarchy_of paths ns) to new ≡ gone) (apart : is_same (Some n) gone ≡ false) (may : MayHold (hierarchy_of paths ns) to new) (allowed : first_of (rename_checks (hierarchy_of paths ns) dir n to gone) ≡ None) (has : is_there (path_of (hierarchy_of paths ns) to) ≡ true) (placed : place ≡ option_and_then (λ it. place_of it to new) (node (hierarchy_of paths ns) n)) where
  abbrev here : Hierarchy
  here = hierarchy_of paths ns

  abbrev with_new : List Inode
  with_new = change (with_name new n) ns to

  abbrev mid : List Inode
  mid = change (without_name name) with_new dir

  abbrev after : List Inode
  after = change (with_place place) (cleared mid gone) n

  named : is_name name ≡ true
  named = child_named here dir name n found

  p : (path : Text) × (path_of here dir ≡ Some path) × (number_at here (join path name) ≡ Some n)
  p = child_stands here dir name n found

  q : (path : Text) × (path_of here to ≡ Some path)
  q = there_is (path_of here to) has

  abbrev source : Text
  source = join p.0 name

  abbrev target : Text
  target = join q.0 new

  m : Moves here source target n
  m = may_move here kept.0 dir n to name new p.0 q.0 named renew may p.1 q.1 found gone is_over apart allowed

  abbrev now : Paths
  now = moved_paths source target paths

  at : get paths p.0 ≡ Some dir
  at = path_stands here dir p.0 p.1

  to_at : get paths q.0 ≡ Some to
  to_at = path_stands here to q.0 q.1

  in_dir : is_dir (node here dir) ≡ true
  in_dir = child_dir here dir name n kept.0 named found

  once : (t : Text) → get paths t ≡ Some dir → t ≡ p.0
  once t on = kept.0.once t p.0 dir on at in_dir

  to_once : (t : Text) → get paths t ≡ Some to → t ≡ q.0
  to_once t on = kept.0.once t q.0 to on to_at may.in_dir

  -- the two names are not one name of one directory
  two_names : to ≡ dir → new ≡ name → ⊥
  two_names e s = apart_numbers n gone apart (sym is_over ∙ ap (λ (k : ℕ). child here k new) e ∙ ap (child here dir) s ∙ found)

  target_at : get paths target ≡ gone
  target_at = sym (child_at here to q.0 new renew q.1) ∙ is_over

  puts : PutsUnder ns with_new to new (Some n)
  puts = puts_name ns to new n (dir_node (node here to) may.in_dir).0 (dir_node (node here to) may.in_dir).1

  takes : PutsUnder with_new mid dir name None
  takes = takes_name with_new dir name

  moves : MovesUnder ns mid dir name to new n
  moves = record {
    comes = takes.others to new two_names ∙ puts.here;
    goes = takes.here;
    others = λ d x one two. takes.others d x one ∙ puts.others d x two;
  }

  after_under : (k : ℕ) (x : Text) → under after k x ≡ under mid k x
  after_under k x = under-change (with_place place) (cleared mid gone) n k x (λ it. refl) ∙ cleared_under mid gone k x

  after_entries : nodes_of after ≡ nodes_of ns
  after_entries =
      entries-change (with_place place) (cleared mid gone) n (λ it. refl) ∙ cleared_entries mid gone
      ∙ entries-change (without_name name) with_new dir (λ it. refl) ∙ entries-change (with_name new n) ns to (λ it. refl)

  mid_place : (k : ℕ) → place_in (slice_get mid k) ≡ place_in (slice_get ns k)
  mid_place k = place-change (without_name name) with_new dir k (λ it. refl) ∙ place-change (with_name new n) ns to k (λ it. refl)

  after_steps : Steps after now
  after_steps = steps-same mid after now after_under (steps-moved ns mid paths kept.0 p.0 q.0 name new dir to n named renew at to_at once to_once m moves (steps ns paths l))

  to_is : get now q.0 ≡ Some to
  to_is = to_now ns mid paths kept.0 p.0 q.0 name new dir to n named renew at to_at once to_once m moves (steps ns paths l)

  target_is : get now target ≡ Some n
  target_is = target_now ns mid paths kept.0 p.0 q.0 name new dir to n named renew at to_at once to_once m moves (steps ns paths l)

  after_view : hierarchy_of now after ≡ renamed here dir name to new
  after_view =
      ap (λ (es : List Node). record { paths = now; nodes = es }) after_entries
      ∙ renamed_there here dir n to name new p.0 q.0 gone p.1 q.1 (sym found) (sym is_over) apart

  after_whole : IsWhole (hierarchy_of now after)
  after_whole = subst IsWhole (sym (ap (λ (es : List Node). record { paths = now; nodes = es }) after_entries)) (moved-whole here kept.0 source target n m)

  source_is : is_canonical source ≡ true
  source_is = kept.0.canonical source n m.stands

  -- nothing stands at a name of the new place
  none_below : (x : Text) → is_name x ≡ true → get paths (join target x) ≡ None
  none_below x nx = m.bare (join target x) (within-down target target x (within-itself target)) (λ e. not_up target x nx (sym e))

  -- where a directory other than the one that went, and the one that it replaced, has its place
  place_moved : (k : ℕ) (was : Option (ℕ × Text)) → (k ≡ n → ⊥) → (get paths target ≡ Some k → ⊥) → IsPlace paths k was → IsPlace now k was
  place_moved k None other not_over h = λ t on. let b = back here kept.0 source target n m t k on in h b.0 b.1
  place_moved k (Some was) other not_over h =
      let path = h.1 in
      let joined_apart : join path was.1 ≡ target → ⊥ = λ e. not_over (ap (get paths) (sym e) ∙ h.3) in
      let path_apart : path ≡ target → ⊥ = λ e. none_some (none_below was.1 h.0) (ap (λ (t : Text). get paths (join t was.1)) (sym e) ∙ h.3) in
      (elim (is_within source path) as (λ (b : Bool). is_within source path ≡ b → IsPlace now k (Some was)) [
        | true ↦ λ w. (
          h.0,
          moved source target path,
          there here kept.0 source target n m path was.0 h.2 path_apart,
          ap (get now) (sym (moved-join source target source_is m.from_below m.to_is m.to_below path was.1 w)) ∙ there here kept.0 source target n m (join path was.1) k h.3 joined_apart,
        )
        | false ↦ λ w. (
          h.0,
          path,
          stays here kept.0 source target n m path was.0 h.2 path_apart w,
          stays here kept.0 source target n m (join path was.1) k h.3 joined_apart (out path was.1 (kept.0.canonical path was.0 h.2) h.0 (λ e. other (same_number k n h.3 (ap (get paths) e ∙ m.stands))) w),
        )
      ]) refl where
        out : (path x : Text) → is_canonical path ≡ true → is_name x ≡ true → (join path x ≡ source → ⊥) → is_within source path ≡ false → is_within source (join path x) ≡ false
        out path x c nx apart w = (elim (is_within source (join path x)) as (λ (b : Bool). is_within source (join path x) ≡ b → b ≡ false) [
          | false ↦ λ e. refl
          | true ↦ λ e. elim (within-join source path x (stem-back source source_is) c nx e) [
            | inl same ↦ absurd (apart same)
            | inr within ↦ absurd (clash _ within w)
          ]
        ]) refl

  -- the directory that was replaced has none
  place_gone : (o : Option ℕ) (k : ℕ) → get paths target ≡ o → (k ≡ n → ⊥) → is_dir (slice_get (nodes_of ns) k) ≡ true → IsPlace paths k (place_in (slice_get mid k)) → IsPlace now k (place_in (slice_get (cleared mid o) k))
  place_gone None k on other d h = place_moved k (place_in (slice_get mid k)) other (λ e. none_some on e) h
  place_gone (Some j) k on other d h = elim (change_cases (with_place None) mid j k) [
    | inl here_is ↦ subst (λ (s : Option (ℕ × Text)). IsPlace now k s) (sym (ap place_in here_is.1 ∙ no_place (slice_get mid j)))
        (λ t is. let b = back here kept.0 source target n m t k is in b.2 (kept.0.once b.0 target k b.1 (on ∙ ap (λ (i : ℕ). Some i) (sym here_is.0)) d))
    | inr left ↦ subst (λ (s : Option (ℕ × Text)). IsPlace now k s) (sym (ap place_in left.1)) (place_moved k (place_in (slice_get mid k)) other (λ e. left.0 (same_number k j e on)) h)
  ] where
    no_place : (o : Option Inode) → place_in (option_map (with_place None) o) ≡ None
    no_place None = refl
    no_place (Some it) = refl

  after_places : HavePlaces now after
  after_places k below d =
      let old : is_dir (slice_get (nodes_of ns) k) ≡ true = ap (λ (es : List Node). is_dir (slice_get es k)) (sym after_entries) ∙ d in
      elim (change_cases (with_place place) (cleared mid gone) n k) [
        | inl here_is ↦
            let it = dir_node (slice_get (nodes_of ns) n) (ap (λ (j : ℕ). is_dir (slice_get (nodes_of ns) j)) (sym here_is.0) ∙ old) in
            let x = node_there (cleared mid gone) n it.0 (ap (λ (es : List Node). slice_get es n) (sym (entries-change (with_place place) (cleared mid gone) n (λ y. refl)) ∙ after_entries) ∙ it.1) in
            subst (λ (s : Option (ℕ × Text)). IsPlace now k s)
            (sym (ap place_in here_is.1 ∙ ap (λ (o : Option Inode). place_in (option_map (with_place place) o)) x.1 ∙ placed ∙ dir_place (node here n) to new (ap (λ (j : ℕ). is_dir (node here j)) (sym here_is.0) ∙ old)))
            (renew, q.0, to_is, target_is ∙ ap (λ (j : ℕ). Some j) (sym here_is.0))
        | inr other ↦ subst (λ (s : Option (ℕ × Text)). IsPlace now k s) (sym (ap place_in other.1))
            (place_gone gone k target_at other.0 old (subst (λ (s : Option (ℕ × Text)). IsPlace paths k s) (sym (mid_place k)) (kept.1 k below old)))
      ]

  after_attached : AreAttached now after
  after_attached d x j on =
      let in_mid : under mid d x ≡ Some j = sym (after_under d x) ∙ on in
      elim (both_or d to x new) [
        | inl two ↦ (ap is_name two.1 ∙ renew, q.0, to_is ∙ ap (λ (i : ℕ). Some i) (sym two.0))
        | inr not_two ↦ elim (both_or d dir x name) [
          | inl one ↦ absurd (none_some (ap (λ (i : ℕ). under mid i x) one.0 ∙ ap (under mid dir) one.1 ∙ takes.here) in_mid)
          | inr not_one ↦
              let was : under ns d x ≡ Some j = sym (moves.others d x not_one not_two) ∙ in_mid in
              let a = kept.2 d x j was in
              let stood : get paths (join a.1 x) ≡ Some j = steps ns paths l a.1 x (kept.0.canonical a.1 d a.2) a.0 ∙ ap (λ (o : Option ℕ). option_and_then (λ i. under ns i x) o) a.2 ∙ was in
              (a.0, moved source target a.1, there here kept.0 source target n m a.1 d a.2 (λ e. none_some (none_below x a.0) (ap (λ (t : Text). get paths (join t x)) (sym e) ∙ stood)))
        ]
      ]

  renamed_core : IsTree after (renamed here dir name to new)
  renamed_core = record {
    paths = now;
    leads = leads after now after_whole after_steps;
    kept = (after_whole, after_places, after_attached);
    is = after_view;
  }

pub renamed-tree : (ns : List Inode) (tree : Hierarchy) (dir n to : ℕ) (name new : Text) (gone : Option ℕ) (place : Option (ℕ × Text)) → IsTree ns tree → is_name new ≡ true → Some n ≡ child tree dir name → gone ≡ child tree to new → is_same (Some n) gone ≡ false → MayHold tree to new → first_of (rename_checks tree dir n to gone) ≡ None → is_there (path_of tree to) ≡ true → place ≡ option_and_then (λ it. place_of it to new) (node tree n)
    → IsTree (change (with_place place) (cleared (change (without_name name) (change (with_name new n) ns to) dir) gone) n) (renamed tree dir name to new)
renamed-tree ns tree dir n to name new gone place t renew = over ns tree t (λ h. Some n ≡ child h dir name → gone ≡ child h to new → is_same (Some n) gone ≡ false → MayHold h to new → first_of (rename_checks h dir n to gone) ≡ None → is_there (path_of h to) ≡ true → place ≡ option_and_then (λ it. place_of it to new) (node h n)
    → IsTree (change (with_place place) (cleared (change (without_name name) (change (with_name new n) ns to) dir) gone) n) (renamed h dir name to new))
    (λ found is_over apart may allowed has placed. renamed_core ns t.paths t.leads t.kept dir n to name new gone place renew (sym found) (sym is_over) apart may allowed has placed)
