-- A tree by its rows.
use Rattle.std.proofs.Common.{◌≡◌, ℕ, List, [], ◌∷◌, Bool, true, false, cond, not, inl, inr, Option, Some, None, refl, sym, ap, ◌∙◌}
use lib.Dec.{T}
use Rattle.std.proofs.lemmas.Bool.{eqb-true, eq-eqb}
use Rattle.std.specs.Prelude.{◌==◌, eqb}
use Rattle.std.specs.FinMap.{entries, find, is_sorted, get-entries, entries_sorted}
use Rattle.rk_base.specs.Text.{Text, text_cmp}
use Rattle.rk_tree.specs.Hierarchy.{Hierarchy, top, node, number_at, first_path, path_of}
use Rattle.rk_tree.specs.Entries.{is_dir}
use Rattle.rk_tree.specs.Whole.{IsWhole}
use Rattle.rk_tree.proofs.RowsLemmas.{find_head, find_later, and_second}
use Rattle.rk_tree.proofs.TextLemmas.{told_apart}

-- the first path of a node is a path of it
first_stands : (n : ℕ) (rows : List (Text × ℕ)) (path : Text) → T (is_sorted text_cmp rows) → first_path n rows ≡ Some path → find text_cmp path rows ≡ Some n
first_stands n [] path h at = cc
first_stands n (row ∷ rows) path h at = (elim (row.1 == n) as (λ (b : Bool). (row.1 == n) ≡ b → cond b (Some row.0) (first_path n rows) ≡ Some path → find text_cmp path (row ∷ rows) ≡ Some n) [
  | true ↦ λ e is. find_head path row rows (sym (same_text_of row.0 path is)) ∙ ap (λ (k : ℕ). Some k) (eqb-true row.1 n e)
  | false ↦ λ e is. find_later path row rows n h (first_stands n rows path (and_second _ _ h) is)
]) refl at where
  same_text_of : (a b : Text) → Some a ≡ Some b → a ≡ b
  same_text_of a b e = cc

pub path_stands : (tree : Hierarchy) (n : ℕ) (path : Text) → path_of tree n ≡ Some path → number_at tree path ≡ Some n
unfolding path_of
path_stands tree n path at = get-entries tree.paths path ∙ first_stands n (entries tree.paths) path (entries_sorted tree.paths) at

-- a node that stands somewhere has a first path
first_some : (n : ℕ) (rows : List (Text × ℕ)) (path : Text) → find text_cmp path rows ≡ Some n → (first : Text) × (first_path n rows ≡ Some first)
first_some n [] path at = cc
first_some n (row ∷ rows) path at = (elim (row.1 == n) as (λ (b : Bool). (row.1 == n) ≡ b → (first : Text) × (cond b (Some row.0) (first_path n rows) ≡ Some first)) [
  | true ↦ λ e. (row.0, refl)
  | false ↦ λ e. elim (told_apart path row.0) [
    | inl same ↦ absurd (clash _ (eq-eqb row.1 n (same_number row.1 n (sym (ap (λ (b : Bool). cond b (Some row.1) (find text_cmp path rows)) same.1) ∙ at))) e)
    | inr apart ↦ first_some n rows path (sym (ap (λ (b : Bool). cond b (Some row.1) (find text_cmp path rows)) apart.1) ∙ at)
  ]
]) refl where
  clash : (b : Bool) → b ≡ true → b ≡ false → ⊥
  clash b t f = cc

  same_number : (a b : ℕ) → Some a ≡ Some b → a ≡ b
  same_number a b e = cc

some_path : (tree : Hierarchy) (n : ℕ) (path : Text) → number_at tree path ≡ Some n → (first : Text) × (path_of tree n ≡ Some first)
unfolding path_of
some_path tree n path at = first_some n (entries tree.paths) path (sym (get-entries tree.paths path) ∙ at)

-- a directory has one path
pub dir_path : (tree : Hierarchy) (path : Text) (n : ℕ) → IsWhole tree → is_dir (node tree n) ≡ true → number_at tree path ≡ Some n → path_of tree n ≡ Some path
dir_path tree path n whole d at =
    let first = some_path tree n path at in
    first.1 ∙ sym (ap (λ (t : Text). Some t) (whole.once path first.0 n at (path_stands tree n first.0 first.1) d))

-- what stands nowhere has none
pub no_path : (tree : Hierarchy) (n : ℕ) → ((path : Text) → number_at tree path ≡ Some n → ⊥) → path_of tree n ≡ None
no_path tree n h = nothing (path_of tree n) (λ path at. h path (path_stands tree n path at)) where
  nothing : (o : Option Text) → ((path : Text) → o ≡ Some path → ⊥) → o ≡ None
  nothing None h = refl
  nothing (Some path) h = absurd (h path refl)

-- The test of the root's number.

pub root-yes : {b : Bool} (n : ℕ) → b ≡ eqb n top → b ≡ true → n ≡ top
root-yes n test is = eqb-true n top (sym test ∙ is)

pub root-no : {b : Bool} (n : ℕ) → b ≡ eqb n top → b ≡ false → n ≡ top → ⊥
root-no n test other is = clash (sym (eq-eqb n top is) ∙ sym test ∙ other) where
  clash : true ≡ false → ⊥
  clash e = cc

-- The test that two numbers differ.

pub differ-no : {b : Bool} (n m : ℕ) → b ≡ not (eqb n m) → b ≡ false → n ≡ m
differ-no n m test other = eqb-true n m (un (eqb n m) (sym test ∙ other)) where
  un : (b : Bool) → not b ≡ false → b ≡ true
  un true e = refl
  un false e = cc

pub differ-yes : {b : Bool} (n m : ℕ) → b ≡ not (eqb n m) → b ≡ true → n ≡ m → ⊥
differ-yes n m test is same = clash (eqb n m) (eq-eqb n m same) (sym test ∙ is) where
  clash : (b : Bool) → b ≡ true → not b ≡ true → ⊥
  clash true t e = cc
  clash false t e = cc
