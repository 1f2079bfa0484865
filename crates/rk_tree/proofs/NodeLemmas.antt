-- A path leads to its node, name by name.
use Rattle.std.proofs.Common.{◌≡◌, ℕ, List, [], ◌∷◌, ◌++◌, Bool, true, false, ◌&&◌, Option, Some, None, drop, refl, sym, ap, ◌∙◌, append_assoc}
use Rattle.std.specs.List.{list_all, join_with_byte}
use Rattle.std.specs.Option.{option_and_then}
use Rattle.std.proofs.lemmas.Bool.{eqb-true}
use Rattle.std.proofs.lemmas.List.Splits.{join_with_byte-slice_split}
use Rattle.rk_base.specs.Text.{Text, is_slash, is_root, root, stem, join, components}
use Rattle.rk_base.specs.Canonical.{is_canonical, is_empty, is_name}
use Rattle.rk_base.proofs.CanonicalLemmas.{both, join-canonical, root-canonical}
use Rattle.rk_base.proofs.PathLemmas.{parent-join, join-not_root}
use Rattle.rk_base.proofs.WithinLemmas.{stem-below}
use Rattle.rk_tree.specs.Entries.{is_dir}
use Rattle.rk_tree.specs.Hierarchy.{Hierarchy, top, node, number_at, child}
use Rattle.rk_tree.specs.Whole.{IsWhole}
use Rattle.rk_tree.proofs.BelowLemmas.{none_some, same_number, child_at, child_none}
use Rattle.rk_tree.proofs.HierarchyLemmas.{dir_path}

clash : (b : Bool) → b ≡ true → b ≡ false → ⊥
clash b t f = cc

-- the node that names lead to from another one
abbrev pub down : Hierarchy → ℕ → List Text → Option ℕ
down tree n [] = Some n
down tree n (name ∷ names) = option_and_then (λ k. down tree k names) (child tree n name)

-- the path of these names below another one
abbrev below : Text → List Text → Text
below path [] = path
below path (name ∷ names) = below (join path name) names

module _ (tree : Hierarchy) (whole : IsWhole tree) where
  -- what stands at a path stands in what stands at its parent
  stands_in : (path name : Text) (n k : ℕ) → is_name name ≡ true → number_at tree path ≡ Some n → number_at tree (join path name) ≡ Some k → is_dir (node tree n) ≡ true
  stands_in path name n k named at is =
      let p = whole.placed (join path name) k is in
      ap (λ (m : ℕ). is_dir (node tree m)) (same_number n p.up at (ap (number_at tree) (sym (parent-join path name (whole.canonical path n at) named)) ∙ p.stands)) ∙ p.in_dir

  nothing_in : (path name : Text) (n : ℕ) → is_name name ≡ true → number_at tree path ≡ Some n → is_dir (node tree n) ≡ false → number_at tree (join path name) ≡ None
  nothing_in path name n named at file = elim (number_at tree (join path name)) as (λ (o : Option ℕ). number_at tree (join path name) ≡ o → o ≡ None) [
    | None ↦ λ is. refl
    | Some k ↦ λ is. absurd (clash _ (stands_in path name n k named at is) file)
  ] refl

  child_is : (path name : Text) (n : ℕ) → is_name name ≡ true → number_at tree path ≡ Some n → child tree n name ≡ number_at tree (join path name)
  child_is path name n named at = elim (is_dir (node tree n)) as (λ (b : Bool). is_dir (node tree n) ≡ b → child tree n name ≡ number_at tree (join path name)) [
    | true ↦ λ d. child_at tree n path name named (dir_path tree path n whole d at)
    | false ↦ λ d. child_none tree n name whole d ∙ sym (nothing_in path name n named at d)
  ] refl

  -- nothing stands below a path at which nothing stands
  nothing_below : (path name : Text) → is_canonical path ≡ true → is_name name ≡ true → number_at tree path ≡ None → number_at tree (join path name) ≡ None
  nothing_below path name canon named none = elim (number_at tree (join path name)) as (λ (o : Option ℕ). number_at tree (join path name) ≡ o → o ≡ None) [
    | None ↦ λ is. refl
    | Some k ↦ λ is. let p = whole.placed (join path name) k is in absurd (none_some none (ap (number_at tree) (sym (parent-join path name canon named)) ∙ p.stands))
  ] refl

  none_below : (path : Text) (names : List Text) → is_canonical path ≡ true → list_all is_name names ≡ true → number_at tree path ≡ None → number_at tree (below path names) ≡ None
  none_below path [] canon all none = none
  none_below path (name ∷ names) canon all none =
      let named = both (is_name name) (list_all is_name names) all in
      none_below (join path name) names (join-canonical path name canon named.0) named.1 (nothing_below path name canon named.0 none)

  down_is : (path : Text) (n : ℕ) (names : List Text) → is_canonical path ≡ true → list_all is_name names ≡ true → number_at tree path ≡ Some n → down tree n names ≡ number_at tree (below path names)
  down_is path n [] canon all at = sym at
  down_is path n (name ∷ names) canon all at =
      let named = both (is_name name) (list_all is_name names) all in
      let next = join-canonical path name canon named.0 in
      ap (option_and_then (λ (k : ℕ). down tree k names)) (child_is path name n named.0 at)
      ∙ (elim (number_at tree (join path name)) as (λ (o : Option ℕ). number_at tree (join path name) ≡ o → option_and_then (λ (k : ℕ). down tree k names) o ≡ number_at tree (below (join path name) names)) [
        | None ↦ λ none. sym (none_below (join path name) names next named.1 none)
        | Some k ↦ λ is. down_is (join path name) k names next named.1 is
      ]) refl

-- the text of a path of names below another one
below-text : (path name : Text) (names : List Text) → list_all is_name (name ∷ names) ≡ true → below path (name ∷ names) ≡ stem path ++ 47 ∷ join_with_byte 47 (name ∷ names)
unfolding join
below-text path name [] all = refl
below-text path name (more ∷ names) all =
    let named = both (is_name name) (list_all is_name (more ∷ names)) all in
    below-text (join path name) more names named.1
    ∙ ap (λ (t : Text). t ++ 47 ∷ join_with_byte 47 (more ∷ names)) (stem-below (join path name) (join-not_root path name named.0))
    ∙ append_assoc (stem path) (47 ∷ name) (47 ∷ join_with_byte 47 (more ∷ names))

-- what stands after the root's slash
after_root : (path : Text) → is_canonical path ≡ true → is_root path ≡ false → (path ≡ 47 ∷ drop 1 path) × (is_empty (drop 1 path) ≡ false) × (list_all is_name (components (drop 1 path)) ≡ true)
unfolding is_canonical
after_root [] c r = cc
after_root (x ∷ []) c r = absurd (clash _ (ap (λ (b : Bool). b && true) (both (is_slash x) _ c).0) r)
after_root (x ∷ y ∷ ys) c r = let h = both (is_slash x) _ c in (ap (λ (b : ℕ). b ∷ y ∷ ys) (eqb-true x 47 h.0), refl, h.1)

by_names : (tree : Hierarchy) (path text : Text) (names : List Text) → IsWhole tree → path ≡ 47 ∷ text → is_empty text ≡ false → components text ≡ names → list_all is_name names ≡ true → down tree top names ≡ number_at tree path
by_names tree path text [] whole is some are all = absurd (clash _ (ap is_empty (sym (join_with_byte-slice_split 47 text) ∙ ap (join_with_byte 47) are)) some)
by_names tree path text (name ∷ names) whole is some are all =
    down_is tree whole root top (name ∷ names) root-canonical all whole.root_at
    ∙ ap (number_at tree) (below-text root name names all ∙ ap (λ (t : Text). 47 ∷ t) (ap (join_with_byte 47) (sym are) ∙ join_with_byte-slice_split 47 text) ∙ sym is)

-- a path's names lead from the root to the node that stands there
pub down-path : (tree : Hierarchy) (path : Text) → IsWhole tree → is_canonical path ≡ true → is_root path ≡ false → down tree top (components (drop 1 path)) ≡ number_at tree path
down-path tree path whole canon r =
    let h = after_root path canon r in
    by_names tree path (drop 1 path) (components (drop 1 path)) whole h.0 h.1 refl h.2

-- one name more
pub down_one : (tree : Hierarchy) (n : ℕ) (names : List Text) (name : Text) (more : List Text) (o : Option ℕ) → names ≡ name ∷ more → o ≡ child tree n name → down tree n names ≡ option_and_then (λ (k : ℕ). down tree k more) o
down_one tree n names name more o are is = ap (down tree n) are ∙ ap (option_and_then (λ (k : ℕ). down tree k more)) (sym is)

pub down_last : (tree : Hierarchy) (n : ℕ) (names : List Text) (name : Text) → names ≡ name ∷ [] → down tree n names ≡ child tree n name
down_last tree n names name are = ap (down tree n) are ∙ itself (child tree n name) where
  itself : (o : Option ℕ) → option_and_then (λ (k : ℕ). Some k) o ≡ o
  itself None = refl
  itself (Some k) = refl
