-- Canonical texts stay canonical.
use Rattle.std.proofs.Common.{suc, ◌+◌, ◌<◌, ◌≤◌, length, take, drop, Some, None, arith, inl, inr, position, ◌≡◌, ℕ, List, [], ◌∷◌, ◌++◌, Bool, true, false, cond, not, ◌&&◌, ◌||◌, refl, sym, ap, ◌∙◌}
use Rattle.std.specs.List.{list_all, list_any, onto_first, position_or_len}
use Rattle.std.proofs.lemmas.List.Folds.{list_all-append}
use Rattle.std.proofs.lemmas.List.{drop-drop}
use Rattle.std.proofs.lemmas.List.Splits.{slice_split_first}
use Rattle.std.proofs.lemmas.Bool.Decides.{leb_tells}
use Rattle.rk_base.specs.Text.{Text, is_slash, is_root, root, join, components}
use Rattle.rk_base.specs.Canonical.{is_barred, is_name, is_empty, begins_named, is_canonical}

pub both : (a b : Bool) → (a && b) ≡ true → (a ≡ true) × (b ≡ true)
both true b h = (refl, h)
both false b h = cc

pub either : (a b : Bool) → (a || b) ≡ false → (a ≡ false) × (b ≡ false)
either false b h = (refl, h)
either true b h = cc

pub denied : (b : Bool) → not b ≡ true → b ≡ false
denied true h = cc
denied false h = refl

onto_first-append : (x : ℕ) (parts more : List Text) → is_empty parts ≡ false → onto_first x (parts ++ more) ≡ onto_first x parts ++ more
onto_first-append x [] more h = cc
onto_first-append x (part ∷ parts) more h = refl

onto_first-some : (x : ℕ) (parts : List Text) → is_empty (onto_first x parts) ≡ false
onto_first-some x [] = refl
onto_first-some x (part ∷ parts) = refl

components-some : (xs : Text) → is_empty (components xs) ≡ false
components-some [] = refl
components-some (x ∷ xs) = elim (is_slash x) as (λ (b : Bool). is_empty (cond b ([] ∷ components xs) (onto_first x (components xs))) ≡ false) [
  | true ↦ refl
  | false ↦ onto_first-some x (components xs)
]

-- a slash cuts a text in two
pub components-append : (xs ys : Text) → components (xs ++ 47 ∷ ys) ≡ components xs ++ components ys
components-append [] ys = refl
components-append (x ∷ xs) ys = elim (is_slash x) as (λ (b : Bool). cond b ([] ∷ components (xs ++ 47 ∷ ys)) (onto_first x (components (xs ++ 47 ∷ ys))) ≡ cond b ([] ∷ components xs) (onto_first x (components xs)) ++ components ys) [
  | true ↦ ap (λ (t : List Text). [] ∷ t) (components-append xs ys)
  | false ↦ ap (onto_first x) (components-append xs ys) ∙ onto_first-append x (components xs) (components ys) (components-some xs)
]

-- a text without a slash is one component
pub components-alone : (xs : Text) → list_any is_barred xs ≡ false → components xs ≡ xs ∷ []
components-alone [] h = refl
components-alone (x ∷ xs) h =
    let e = either (is_barred x) (list_any is_barred xs) h in
    let s = either (is_slash x) _ e.0 in
    ap (λ (b : Bool). cond b ([] ∷ components xs) (onto_first x (components xs))) s.0 ∙ ap (onto_first x) (components-alone xs e.1)

pub name-unbarred : (name : Text) → is_name name ≡ true → list_any is_barred name ≡ false
unfolding is_name
name-unbarred name h = denied _ (both _ _ (both _ _ (both _ _ h).0).0).1

name-component : (name : Text) → is_name name ≡ true → list_all is_name (components name) ≡ true
name-component name h = ap (list_all is_name) (components-alone name (name-unbarred name h)) ∙ ap (λ (b : Bool). b && true) h

pub root-canonical : is_canonical root ≡ true
unfolding is_canonical
root-canonical = refl

or_true : (b : Bool) → (b || true) ≡ true
or_true true = refl
or_true false = refl

-- the path of a name in a directory
pub join-canonical : (dir name : Text) → is_canonical dir ≡ true → is_name name ≡ true → is_canonical (join dir name) ≡ true
unfolding is_canonical join
join-canonical [] name d n = cc
join-canonical (b ∷ []) name d n =
    let slash : is_root (b ∷ []) ≡ true = ap (λ (c : Bool). c && true) (both _ _ d).0 in
    ap (λ (c : Bool). begins_named (cond c [] (b ∷ []) ++ 47 ∷ name)) slash
    ∙ ap (λ (c : Bool). is_empty name || c) (name-component name n) ∙ or_true (is_empty name)
join-canonical (b ∷ c ∷ cs) name d n =
    let h = both (is_slash b) _ d in
    let no : is_root (b ∷ c ∷ cs) ≡ false = ap (λ (s : Bool). s && false) h.0 in
    ap (λ (s : Bool). begins_named (cond s [] (b ∷ c ∷ cs) ++ 47 ∷ name)) no
    ∙ ap (λ (s : Bool). s && list_all is_name (components ((c ∷ cs) ++ 47 ∷ name))) h.0
    ∙ ap (list_all is_name) (components-append (c ∷ cs) name) ∙ list_all-append is_name (components (c ∷ cs)) (components name)
    ∙ ap (λ (s : Bool). s && list_all is_name (components name)) h.1 ∙ name-component name n

-- The first slash, as the code finds it.

abbrev slash_place : Text → ℕ
slash_place = position_or_len is_slash

found : (xs : Text) (i : ℕ) → position is_slash xs ≡ Some i → (slash_place xs < length xs) × (slash_place xs ≡ i)
found xs i h =
    elim (leb_tells (suc (slash_place xs)) (length xs)) [
      | inl e ↦ (omega (arith, e.1), cc (h, ap (λ (b : Bool). cond b (Some (slash_place xs)) None) e.0))
      | inr e ↦ cc (h, ap (λ (b : Bool). cond b (Some (slash_place xs)) None) e.0)
    ]

unfound : (xs : Text) → position is_slash xs ≡ None → length xs ≤ slash_place xs
unfound xs h =
    elim (leb_tells (suc (slash_place xs)) (length xs)) [
      | inl e ↦ cc (h, ap (λ (b : Bool). cond b (Some (slash_place xs)) None) e.0)
      | inr e ↦ omega (arith, e.1)
    ]

whole : (xs : Text) → length xs ≤ slash_place xs → components xs ≡ xs ∷ []
whole [] h = refl
whole (x ∷ xs) h = (elim (is_slash x) as (λ (b : Bool). suc (length xs) ≤ cond (not b) (1 + slash_place xs) 0 → cond b ([] ∷ components xs) (onto_first x (components xs)) ≡ (x ∷ xs) ∷ []) [
  | true ↦ λ k. absurd (omega arith)
  | false ↦ λ k. ap (onto_first x) (whole xs (omega arith))
]) h

-- a text without a slash is one component, and else the first one ends at the first slash
pub components_alone : (xs : Text) → position is_slash xs ≡ None → components xs ≡ xs ∷ []
components_alone xs h = whole xs (unfound xs h)

pub components_first : (xs : Text) (i : ℕ) → position is_slash xs ≡ Some i → components xs ≡ take i xs ∷ components (drop 1 (drop i xs))
components_first xs i h =
    let f = found xs i h in
    slice_split_first is_slash xs 0 f.0 ∙ ap (λ (n : ℕ). take n xs ∷ components (drop (n + 1) xs)) f.1 ∙ ap (λ (t : Text). take i xs ∷ components t) (sym (drop-drop 1 i xs))
