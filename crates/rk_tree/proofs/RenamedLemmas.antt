-- Where a renamed node may go.
use Rattle.std.proofs.Common.{◌≡◌, ℕ, [], ◌∷◌, Bool, true, false, cond, not, ◌&&◌, inl, inr, Option, Some, None, refl, sym, ap, ◌∙◌, arith, ◌+◌}
use Rattle.std.proofs.lemmas.Bool.{eq-eqb}
use Rattle.rk_base.specs.Text.{Text, root, parent, join, hidden, depth, is_within}
use Rattle.rk_base.specs.Canonical.{is_name, is_canonical}
use Rattle.rk_base.specs.declared.errno.Errno.TheVariants.{NotDir, IsDir, Denied, NotEmpty, Invalid}
use Rattle.rk_base.proofs.CanonicalLemmas.{join-canonical}
use Rattle.rk_base.proofs.PathLemmas.{parent-join, join-not_root, depth-join}
use Rattle.rk_base.proofs.WithinLemmas.{within-join, stem-back}
use Rattle.rk_tree.specs.Entries.{is_dir}
use Rattle.rk_tree.specs.Hierarchy.{Hierarchy, node, number_at, path_of, child, within, stands_within, is_same, with_path, moved_paths, renamed}
use Rattle.rk_tree.specs.Moves.{IsBare, Moves}
use Rattle.rk_tree.specs.Refusals.{first_of, is_there, lacks_w, has_names, goes_below, over_checks, rename_checks, rename_found, rename_refusal}
use Rattle.rk_tree.specs.Whole.{IsWhole, MayHold}
use Rattle.rk_tree.proofs.BelowLemmas.{none_some, same_number, bare_absent, stands_on, child_at, child_stands}
use Rattle.rk_tree.proofs.HierarchyLemmas.{dir_path, path_stands}
use Rattle.rk_tree.proofs.RefusalLemmas.{passed, not_there}
use Rattle.rk_tree.proofs.RemovedLemmas.{bare_path}
use Rattle.rk_tree.proofs.WholeLemmas.{unhidden}

clash : (b : Bool) → b ≡ true → b ≡ false → ⊥
clash b t f = cc

-- What the checks leave.

-- of what may go over a node: the kinds agree, and nothing stands below it
over_allowed : (tree : Hierarchy) (n to m : ℕ) → first_of (over_checks tree n to (Some m)) ≡ None → (is_dir (node tree m) ≡ is_dir (node tree n)) × (goes_below tree n to ≡ false) × (has_names tree m ≡ false)
over_allowed tree n to m h =
    let one = passed (is_dir (node tree n) && not (is_dir (node tree m))) NotDir ((not (is_dir (node tree n)) && is_dir (node tree m), IsDir) ∷ (goes_below tree n to, Invalid) ∷ (has_names tree m, NotEmpty) ∷ []) h in
    let two = passed (not (is_dir (node tree n)) && is_dir (node tree m)) IsDir ((goes_below tree n to, Invalid) ∷ (has_names tree m, NotEmpty) ∷ []) one.1 in
    let three = passed (goes_below tree n to) Invalid ((has_names tree m, NotEmpty) ∷ []) two.1 in
    (alike (is_dir (node tree n)) (is_dir (node tree m)) one.0 two.0, three.0, (passed (has_names tree m) NotEmpty [] three.1).0) where
      alike : (a b : Bool) → (a && not b) ≡ false → (not a && b) ≡ false → b ≡ a
      alike true true h k = refl
      alike true false h k = cc
      alike false true h k = cc
      alike false false h k = refl

checks_over : (tree : Hierarchy) (dir n to : ℕ) (over : Option ℕ) → first_of (rename_checks tree dir n to over) ≡ None → first_of (over_checks tree n to over) ≡ None
checks_over tree dir n to over h =
    let one = passed (lacks_w tree dir) Denied ((lacks_w tree to, Denied) ∷ over_checks tree n to over) h in
    (passed (lacks_w tree to) Denied (over_checks tree n to over) one.1).1

not_below : (tree : Hierarchy) (n to : ℕ) (over : Option ℕ) → first_of (over_checks tree n to over) ≡ None → goes_below tree n to ≡ false
not_below tree n to None h = (passed (goes_below tree n to) Invalid [] h).0
not_below tree n to (Some m) h = (over_allowed tree n to m h).1

-- a directory isn't below a place that isn't within it
apart_dirs : (tree : Hierarchy) (n to : ℕ) (from onto : Text) → path_of tree n ≡ Some from → path_of tree to ≡ Some onto → is_dir (node tree n) ≡ true → goes_below tree n to ≡ false → is_within from onto ≡ false
unfolding stands_within
apart_dirs tree n to from onto at too d h =
    sym (ap (λ (o : Option Text). within o (Some onto)) at) ∙ sym (ap (within (path_of tree n)) too) ∙ sym (ap (λ (b : Bool). b && within (path_of tree n) (path_of tree to)) d) ∙ h

-- Where it goes.

module _ (tree : Hierarchy) (whole : IsWhole tree) (dir n to : ℕ) (name new from_dir onto_dir : Text) (named : is_name name ≡ true) (renew : is_name new ≡ true) (may : MayHold tree to new) (from_at : path_of tree dir ≡ Some from_dir) (onto_at : path_of tree to ≡ Some onto_dir) (found : child tree dir name ≡ Some n) (over : Option ℕ) (is_over : child tree to new ≡ over) (apart : is_same (Some n) over ≡ false) (allowed : first_of (rename_checks tree dir n to over) ≡ None) where
  abbrev from : Text
  from = join from_dir name

  abbrev onto : Text
  onto = join onto_dir new

  from_stands : number_at tree from ≡ Some n
  from_stands = sym (child_at tree dir from_dir name named from_at) ∙ found

  onto_stands : number_at tree onto ≡ over
  onto_stands = sym (child_at tree to onto_dir new renew onto_at) ∙ is_over

  dir_stands : number_at tree onto_dir ≡ Some to
  dir_stands = path_stands tree to onto_dir onto_at

  dir_is : is_canonical onto_dir ≡ true
  dir_is = whole.canonical onto_dir to dir_stands

  onto_is : is_canonical onto ≡ true
  onto_is = join-canonical onto_dir new dir_is renew

  from_is : is_canonical from ≡ true
  from_is = whole.canonical from n from_stands

  not_one : from ≡ onto → ⊥
  not_one same = one over (sym onto_stands ∙ ap (number_at tree) (sym same) ∙ from_stands) apart where
    one : (o : Option ℕ) → o ≡ Some n → is_same (Some n) o ≡ false → ⊥
    one None is a = none_some refl is
    one (Some m) is a = clash _ (eq-eqb n m (same_number {o = Some m} n m is refl)) a

  -- the directory that it goes to isn't within it
  dir_outside : is_within from onto_dir ≡ false
  dir_outside = (elim (is_dir (node tree n)) as (λ (b : Bool). is_dir (node tree n) ≡ b → is_within from onto_dir ≡ false) [
    | true ↦ λ d. apart_dirs tree n to from onto_dir (dir_path tree from n whole d from_stands) onto_at d (not_below tree n to over (checks_over tree dir n to over allowed))
    | false ↦ λ d. (elim (is_within from onto_dir) as (λ (b : Bool). is_within from onto_dir ≡ b → b ≡ false) [
      | false ↦ λ w. refl
      | true ↦ λ w. let s = stands_on tree whole from from_is (join-not_root from_dir name named) onto_dir dir_is w to dir_stands in absurd (elim s.2 [
        | inl same ↦ clash _ may.in_dir (ap (λ (k : ℕ). is_dir (node tree k)) (same_number to n dir_stands (ap (number_at tree) same ∙ from_stands)) ∙ d)
        | inr above ↦ clash _ above (ap (λ (k : ℕ). is_dir (node tree k)) (same_number s.0 n s.1 from_stands) ∙ d)
      ])
    ]) refl
  ]) refl

  outside : is_within from onto ≡ false
  outside = (elim (is_within from onto) as (λ (b : Bool). is_within from onto ≡ b → b ≡ false) [
    | false ↦ λ w. refl
    | true ↦ λ w. elim (within-join from onto_dir new (stem-back from from_is) dir_is renew w) [
      | inl same ↦ absurd (not_one (sym same))
      | inr above ↦ absurd (clash _ above dir_outside)
    ]
  ]) refl

  bare_onto : (o : Option ℕ) → number_at tree onto ≡ o → first_of (over_checks tree n to o) ≡ None → IsBare tree onto
  bare_onto None at h = bare_absent tree whole onto onto_is (join-not_root onto_dir new renew) at
  bare_onto (Some m) at h = bare_path tree onto m whole onto_is (join-not_root onto_dir new renew) at (over_allowed tree n to m h).2

  kinds : (o : Option ℕ) → number_at tree onto ≡ o → first_of (over_checks tree n to o) ≡ None → (m : ℕ) → number_at tree onto ≡ Some m → is_dir (node tree m) ≡ is_dir (node tree n)
  kinds None at h m there = absurd (none_some at there)
  kinds (Some k) at h m there = ap (λ (j : ℕ). is_dir (node tree j)) (same_number m k there at) ∙ (over_allowed tree n to k h).0

  deeper : parent onto ≡ onto → ⊥
  deeper same =
      let one : depth onto ≡ depth onto_dir + 1 = depth-join onto_dir new renew in
      let two : depth onto_dir ≡ depth onto = ap depth (sym (parent-join onto_dir new dir_is renew) ∙ same) in
      omega (arith, one, two)

  unseen : is_within (join root hidden) onto ≡ false
  unseen = (elim (is_within (join root hidden) onto) as (λ (b : Bool). is_within (join root hidden) onto ≡ b → b ≡ false) [
    | true ↦ λ w. absurd (unhidden tree to new onto_dir whole renew may dir_stands w)
    | false ↦ λ w. refl
  ]) refl

  pub may_move : Moves tree (join from_dir name) (join onto_dir new) n
  may_move = record {
    stands = from_stands;
    from_below = join-not_root from_dir name named;
    to_below = join-not_root onto_dir new renew;
    to_is = onto_is;
    outside = outside;
    placed = record { up = to; stands = ap (number_at tree) (parent-join onto_dir new dir_is renew) ∙ dir_stands; in_dir = may.in_dir };
    apart = deeper;
    seen = unseen;
    bare = bare_onto over onto_stands (checks_over tree dir n to over allowed);
    alike = kinds over onto_stands (checks_over tree dir n to over allowed);
  }

-- What it makes.

renamed_apart : (tree : Hierarchy) (dir n to : ℕ) (name new : Text) (over : Option ℕ) → Some n ≡ child tree dir name → over ≡ child tree to new → is_same (Some n) over ≡ false → renamed tree dir name to new ≡ record tree { paths = with_path (path_of tree dir) (λ from. with_path (path_of tree to) (λ onto. moved_paths (join from name) (join onto new) tree.paths) tree.paths) tree.paths }
unfolding renamed
renamed_apart tree dir n to name new over found is_over apart =
    ap (λ (b : Bool). cond b tree (record tree { paths = with_path (path_of tree dir) (λ from. with_path (path_of tree to) (λ onto. moved_paths (join from name) (join onto new) tree.paths) tree.paths) tree.paths }))
    (sym (ap (is_same (Some n)) is_over ∙ ap (λ (o : Option ℕ). is_same o (child tree to new)) found) ∙ apart)

pub renamed_there : (tree : Hierarchy) (dir n to : ℕ) (name new from_up onto_up : Text) (over : Option ℕ) → path_of tree dir ≡ Some from_up → path_of tree to ≡ Some onto_up → Some n ≡ child tree dir name → over ≡ child tree to new → is_same (Some n) over ≡ false → record tree { paths = moved_paths (join from_up name) (join onto_up new) tree.paths } ≡ renamed tree dir name to new
renamed_there tree dir n to name new from_up onto_up over at too found is_over apart =
    sym (renamed_apart tree dir n to name new over found is_over apart
    ∙ ap (λ (o : Option Text). record tree { paths = with_path o (λ p. with_path (path_of tree to) (λ q. moved_paths (join p name) (join q new) tree.paths) tree.paths) tree.paths }) at
    ∙ ap (λ (o : Option Text). record tree { paths = with_path o (λ q. moved_paths (join from_up name) (join q new) tree.paths) tree.paths }) too)

pub renamed_nowhere : (tree : Hierarchy) (dir n to : ℕ) (name new : Text) (over : Option ℕ) → is_there (path_of tree to) ≡ false → Some n ≡ child tree dir name → over ≡ child tree to new → is_same (Some n) over ≡ false → tree ≡ renamed tree dir name to new
renamed_nowhere tree dir n to name new over at found is_over apart =
    let a = child_stands tree dir name n (sym found) in
    sym (renamed_apart tree dir n to name new over found is_over apart
    ∙ ap (λ (o : Option Text). record tree { paths = with_path o (λ p. with_path (path_of tree to) (λ q. moved_paths (join p name) (join q new) tree.paths) tree.paths) tree.paths }) a.1
    ∙ ap (λ (o : Option Text). record tree { paths = with_path o (λ q. moved_paths (join a.0 name) (join q new) tree.paths) tree.paths }) (not_there (path_of tree to) at))

pub renamed_same : (tree : Hierarchy) (dir n to : ℕ) (name new : Text) (over : Option ℕ) → Some n ≡ child tree dir name → over ≡ child tree to new → is_same (Some n) over ≡ true → (rename_refusal tree dir name to new ≡ None) × (tree ≡ renamed tree dir name to new)
unfolding renamed rename_refusal
renamed_same tree dir n to name new over found is_over same = (
  sym (ap (λ (o : Option ℕ). rename_found tree dir to o (child tree to new)) found) ∙ sym (ap (rename_found tree dir to (Some n)) is_over) ∙ allowed over same,
  sym (ap (λ (b : Bool). cond b tree (record tree { paths = with_path (path_of tree dir) (λ from. with_path (path_of tree to) (λ onto. moved_paths (join from name) (join onto new) tree.paths) tree.paths) tree.paths }))
      (sym (ap (is_same (Some n)) is_over ∙ ap (λ (o : Option ℕ). is_same o (child tree to new)) found) ∙ same)),
) where
  allowed : (o : Option ℕ) → is_same (Some n) o ≡ true → rename_found tree dir to (Some n) o ≡ None
  allowed None h = absurd (clash _ h refl)
  allowed (Some m) h = ap (λ (b : Bool). cond b None (first_of (rename_checks tree dir n to (Some m)))) h

pub rename_refusal-is : (tree : Hierarchy) (dir n to : ℕ) (name new : Text) (over : Option ℕ) → Some n ≡ child tree dir name → over ≡ child tree to new → is_same (Some n) over ≡ false → first_of (rename_checks tree dir n to over) ≡ rename_refusal tree dir name to new
unfolding rename_refusal
rename_refusal-is tree dir n to name new over found is_over apart = sym (checks over apart) ∙ ap (rename_found tree dir to (Some n)) is_over ∙ ap (λ (o : Option ℕ). rename_found tree dir to o (child tree to new)) found where
  checks : (o : Option ℕ) → is_same (Some n) o ≡ false → rename_found tree dir to (Some n) o ≡ first_of (rename_checks tree dir n to o)
  checks None h = refl
  checks (Some m) h = ap (λ (b : Bool). cond b None (first_of (rename_checks tree dir n to (Some m)))) h

pub rename_absent : (tree : Hierarchy) (dir to : ℕ) (name new : Text) → None ≡ child tree dir name → rename_refusal tree dir name to new ≡ rename_found tree dir to None (child tree to new)
unfolding rename_refusal
rename_absent tree dir to name new none = ap (λ (o : Option ℕ). rename_found tree dir to o (child tree to new)) (sym none)
