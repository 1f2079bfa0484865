-- The order of paths, and finding in rows that are in order.
use Rattle.std.proofs.Common.{◌≡◌, ℕ, List, [], ◌∷◌, ◌++◌, Bool, true, false, cond, ◌&&◌, inl, inr, Option, Some, None, refl, sym, ap, subst, ◌∙◌}
use lib.Dec.{T}
use Rattle.std.proofs.lemmas.Cmp.{tied_itself}
use Rattle.std.specs.List.{filter_map, cons_option}
use Rattle.std.specs.Ordering.{eq_by_cmp, is_eq, is_lt, ordering_reverse, ordering_then}
use Rattle.std.specs.declared.cmp.Ordering.{Ordering}
use Rattle.std.specs.declared.cmp.Ordering.TheVariants.{Less, Equal, Greater}
use Rattle.std.specs.Cmp.{nat_cmp_total}
use Rattle.std.specs.Cmp.Lexicographic.{nat_list_cmp_total}
use Rattle.std.specs.FinMap.{find, is_sorted}
use Rattle.std.specs.FinMap.Entries.{below_all}
use Rattle.rk_tree.proofs.TextLemmas.{same_is, ties_itself, told_apart}
use Rattle.rk_base.specs.Text.{Text, text_cmp, is_root, root, join, parent, name_of}
use Rattle.rk_base.specs.Canonical.{is_empty, is_name, is_canonical}
use Rattle.rk_base.proofs.CanonicalLemmas.{both, denied}
use Rattle.rk_base.proofs.PathLemmas.{path-is_cut}

pub clash : (b : Bool) → b ≡ true → b ≡ false → ⊥
clash b t f = cc

-- a text comes before one that goes on
less_front : (xs ys : Text) (y : ℕ) → text_cmp xs (xs ++ y ∷ ys) ≡ Less
less_front [] ys y = refl
less_front (x ∷ xs) ys y = ap (λ (o : Ordering). ordering_then o (text_cmp xs (xs ++ y ∷ ys))) (tied_itself nat_cmp_total x) ∙ less_front xs ys y

name_filled : (name : Text) → is_name name ≡ true → is_empty name ≡ false
unfolding is_name
name_filled name h = denied _ (both _ _ (both _ _ (both _ _ (both _ _ (both _ _ h).0).0).0).0).0

less_name : (name : Text) → is_empty name ≡ false → text_cmp root (47 ∷ name) ≡ Less
less_name [] h = cc
less_name (n ∷ ns) h = less_front root ns n

less_join : (dir name : Text) → is_name name ≡ true → text_cmp dir (join dir name) ≡ Less
unfolding join
less_join dir name n = elim (is_root dir) as (λ (b : Bool). is_root dir ≡ b → text_cmp dir (cond b [] dir ++ 47 ∷ name) ≡ Less) [
  | true ↦ λ e. ap (λ (d : Text). text_cmp d (47 ∷ name)) (same_is dir root e) ∙ less_name name (name_filled name n)
  | false ↦ λ e. less_front dir name 47
] refl

-- a directory comes before what stands in it
pub parent-less : (path : Text) → is_canonical path ≡ true → is_root path ≡ false → text_cmp (parent path) path ≡ Less
parent-less path c r = let cut = path-is_cut path c r in ap (text_cmp (parent path)) (sym cut.whole) ∙ less_join (parent path) (name_of path) cut.name

less_not_equal : (o : Ordering) → o ≡ Less → is_eq o ≡ false
less_not_equal o h = ap is_eq h

-- one text is not before another that is before it
pub less_clash : (a b : Text) → text_cmp a b ≡ Less → text_cmp b a ≡ Less → ⊥
less_clash a b h k = no (sym h ∙ nat_list_cmp_total.antisymm a b ∙ ap ordering_reverse k) where
  no : Less ≡ Greater → ⊥
  no e = cc

pub less-not_tied : (a b : Text) → text_cmp a b ≡ Less → eq_by_cmp text_cmp a b ≡ false
less-not_tied a b h = ap is_eq h

-- Rows in order.

first : (a b : Bool) → T (a && b) → T a
first true b p = tt
first false b p = p

second : (a b : Bool) → T (a && b) → T b
second true b p = p
second false b p = absurd p

both_T : (a b : Bool) → T a → T b → T (a && b)
both_T true b p q = q
both_T false b p q = p

is_less : (o : Ordering) → T (is_lt o) → o ≡ Less
is_less Less p = refl
is_less Equal p = absurd p
is_less Greater p = absurd p

less_is : (o : Ordering) → o ≡ Less → T (is_lt o)
less_is o e = subst (λ (r : Ordering). T (is_lt r)) (sym e) tt

module _ {X : Type 0} where
  abbrev pub Below : Text → List (Text × X) → Type 0
  Below q rows = T (below_all text_cmp q rows)

  abbrev pub InOrder : List (Text × X) → Type 0
  InOrder rows = T (is_sorted text_cmp rows)

  pub below_first : (q : Text) (row : Text × X) (rows : List (Text × X)) → Below q (row ∷ rows) → text_cmp q row.0 ≡ Less
  below_first q row rows h = is_less _ (first _ _ h)

  pub below_rest : (q : Text) (row : Text × X) (rows : List (Text × X)) → Below q (row ∷ rows) → Below q rows
  below_rest q row rows h = second _ _ h

  pub in_order_first : (row : Text × X) (rows : List (Text × X)) → InOrder (row ∷ rows) → Below row.0 rows
  in_order_first row rows h = first _ _ h

  pub in_order_rest : (row : Text × X) (rows : List (Text × X)) → InOrder (row ∷ rows) → InOrder rows
  in_order_rest row rows h = second _ _ h

  -- what is before a text that is before all rows
  pub below_less : (q p : Text) (rows : List (Text × X)) → text_cmp q p ≡ Less → Below p rows → Below q rows
  below_less q p [] l h = tt
  below_less q p (row ∷ rows) l h = both_T _ _ (less_is _ (nat_list_cmp_total.trans q p row.0 l (below_first p row rows h))) (below_less q p rows l (below_rest p row rows h))

  pub below_cons : (q : Text) (row : Text × X) (rows : List (Text × X)) → text_cmp q row.0 ≡ Less → Below row.0 rows → Below q (row ∷ rows)
  below_cons q row rows l h = both_T _ _ (less_is _ l) (below_less q row.0 rows l h)

  pub find_below : (q : Text) (rows : List (Text × X)) → Below q rows → find text_cmp q rows ≡ None
  find_below q [] h = refl
  find_below q (row ∷ rows) h = ap (λ (b : Bool). cond b (Some row.1) (find text_cmp q rows)) (less-not_tied q row.0 (below_first q row rows h)) ∙ find_below q rows (below_rest q row rows h)

  pub find_first : (row : Text × X) (rows : List (Text × X)) → find text_cmp row.0 (row ∷ rows) ≡ Some row.1
  find_first row rows = ap (λ (b : Bool). cond b (Some row.1) (find text_cmp row.0 rows)) (ties_itself row.0)

  pub find_other : (q : Text) (row : Text × X) (rows : List (Text × X)) → eq_by_cmp text_cmp q row.0 ≡ false → find text_cmp q (row ∷ rows) ≡ find text_cmp q rows
  find_other q row rows e = ap (λ (b : Bool). cond b (Some row.1) (find text_cmp q rows)) e

  absent : (it : X) → None ≡ Some it → ⊥
  absent it e = cc

  -- what is found behind the first row is found
  pub find_later : (row : Text × X) (rows : List (Text × X)) (q : Text) (it : X) → Below row.0 rows → find text_cmp q rows ≡ Some it → find text_cmp q (row ∷ rows) ≡ Some it
  find_later row rows q it b h = elim (told_apart q row.0) [
    | inl same ↦ absurd (absent it (sym (find_below row.0 rows b) ∙ ap (λ (p : Text). find text_cmp p rows) (sym same.0) ∙ h))
    | inr other ↦ find_other q row rows other.1 ∙ h
  ]

  -- nothing is made of rows of which each makes nothing
  pub none_made : {Y : Type 0} (make : Text × X → Option Y) (rows : List (Text × X)) → InOrder rows → ((row : Text × X) → find text_cmp row.0 rows ≡ Some row.1 → make row ≡ None) → filter_map make rows ≡ []
  none_made make [] o h = refl
  none_made {Y = Y} make (row ∷ rows) o h =
      ap (λ (y : Option Y). cons_option y (filter_map make rows)) (h row (find_first row rows))
      ∙ none_made make rows (in_order_rest row rows o) (λ r f. h r (find_later row rows r.0 r.1 (in_order_first row rows o) f))
