-- What holds of each element of a list.
use Rattle.std.specs.Prelude.{◌≡◌, ℕ, zero, suc, ◌+◌, ◌≤◌, ◌<◌, Bool, true, false, ◌&&◌, cond, List, [], ◌∷◌, length, take, filter, refl}
use Rattle.std.proofs.Common.{ap, subst, arith, get_or}
use Rattle.std.proofs.lemmas.List.{take_all}
use Rattle.std.specs.List.{AllByRecursion as Each}

pub each-all : {X : Type 0} (P : X → Type 0) → ((x : X) → P x) → (xs : List X) → Each P xs
each-all P h [] = tt
each-all P h (x ∷ xs) = (h x, each-all P h xs)

pub each-map : {X : Type 0} (P Q : X → Type 0) → ((x : X) → P x → Q x) → (xs : List X) → Each P xs → Each Q xs
each-map P Q h [] e = tt
each-map P Q h (x ∷ xs) e = (h x e.0, each-map P Q h xs e.1)

pub each-both : {X : Type 0} (P Q : X → Type 0) (xs : List X) → Each P xs → Each Q xs → Each (λ x. P x × Q x) xs
each-both P Q [] e f = tt
each-both P Q (x ∷ xs) e f = ((e.0, f.0), each-both P Q xs e.1 f.1)

pub each-filter : {X : Type 0} (P : X → Type 0) (t : X → Bool) (xs : List X) → Each P xs → Each P (filter t xs)
each-filter P t [] e = tt
each-filter P t (x ∷ xs) e =
    elim (t x) as (λ b. Each P (cond b (x ∷ filter t xs) (filter t xs))) [
      | true ↦ (e.0, each-filter P t xs e.1)
      | false ↦ each-filter P t xs e.1
    ]

passes_by : {X : Type 0} (t : X → Bool) (x : X) (xs : List X) (b : Bool) → t x ≡ b → Each (λ y. t y ≡ true) xs → Each (λ y. t y ≡ true) (cond b (x ∷ xs) xs)
passes_by t x xs true h e = (h, e)
passes_by t x xs false h e = e

pub each-passes : {X : Type 0} (t : X → Bool) (xs : List X) → Each (λ x. t x ≡ true) (filter t xs)
each-passes t [] = tt
each-passes t (x ∷ xs) = passes_by t x (filter t xs) (t x) refl (each-passes t xs)

from_by : {X : Type 0} (P : X → Type 0) (x : X) (xs : List X) (b : Bool) → Each P (cond b (x ∷ xs) xs) → (b ≡ true → P x) × Each P xs
from_by P x xs true e = (λ h. e.0, e.1)
from_by P x xs false e = (λ h. absurd (let f : false ≡ true = h in cc), e)

-- what holds of what passes
pub each-from_filter : {X : Type 0} (P : X → Type 0) (t : X → Bool) (xs : List X) → Each P (filter t xs) → Each (λ x. t x ≡ true → P x) xs
each-from_filter P t [] e = tt
each-from_filter P t (x ∷ xs) e =
    let r = from_by P x (filter t xs) (t x) e in
    (r.0, each-from_filter P t xs r.1)

to_by : {X : Type 0} (P : X → Type 0) (x : X) (xs : List X) (b : Bool) → (b ≡ true → P x) → Each P xs → Each P (cond b (x ∷ xs) xs)
to_by P x xs true h e = (h refl, e)
to_by P x xs false h e = e

pub each-to_filter : {X : Type 0} (P : X → Type 0) (t : X → Bool) (xs : List X) → Each (λ x. t x ≡ true → P x) xs → Each P (filter t xs)
each-to_filter P t [] e = tt
each-to_filter P t (x ∷ xs) e = to_by P x (filter t xs) (t x) e.0 (each-to_filter P t xs e.1)

-- one test after another
pub filter-both : {X : Type 0} (p q : X → Bool) (xs : List X) → filter (λ x. p x && q x) xs ≡ filter q (filter p xs)
filter-both p q [] = refl
filter-both p q (x ∷ xs) =
    elim (p x) as (λ b. cond (b && q x) (x ∷ filter (λ x. p x && q x) xs) (filter (λ x. p x && q x) xs) ≡ filter q (cond b (x ∷ filter p xs) (filter p xs))) [
      | true ↦ ap (λ l. cond (q x) (x ∷ l) l) (filter-both p q xs)
      | false ↦ filter-both p q xs
    ]

pub filter-true : {X : Type 0} (xs : List X) → filter (λ x. true) xs ≡ xs
filter-true [] = refl
filter-true (x ∷ xs) = ap (λ l. x ∷ l) (filter-true xs)

-- element by element
pub each-at : {X : Type 0} (P : X → Type 0) (xs : List X) (k : ℕ) (d : X) → Each P xs → k < length xs → P (get_or xs k d)
each-at P [] k d e h = absurd (omega arith)
each-at P (x ∷ xs) zero d e h = e.0
each-at P (x ∷ xs) (suc k) d e h = each-at P xs k d e.1 (omega arith)

pub each-more : {X : Type 0} (P : X → Type 0) (xs : List X) (k : ℕ) (d : X) → k < length xs → Each P (take k xs) → P (get_or xs k d) → Each P (take (k + 1) xs)
each-more {X = X} P xs k d h e p = subst (λ n. Each P (take n xs)) (let z : suc k ≡ k + 1 = omega arith in z) (go xs k h e p)
  where
    go : (xs : List X) (k : ℕ) → k < length xs → Each P (take k xs) → P (get_or xs k d) → Each P (take (suc k) xs)
    go [] k h e p = absurd (omega arith)
    go (x ∷ xs) zero h e p = (p, tt)
    go (x ∷ xs) (suc k) h e p = (e.0, go xs k (omega arith) e.1 p)

pub each-full : {X : Type 0} (P : X → Type 0) (xs : List X) (k : ℕ) → length xs ≤ k → Each P (take k xs) → Each P xs
each-full P xs k h e = subst (Each P) (take_all k xs h) e

pub each-only : {X : Type 0} (P : X → Type 0) (xs : List X) (d : X) → ((k : ℕ) → k < length xs → P (get_or xs k d)) → Each P xs
each-only P [] d h = tt
each-only P (x ∷ xs) d h = (h 0 (omega arith), each-only P xs d (λ k l. h (suc k) (omega arith)))
