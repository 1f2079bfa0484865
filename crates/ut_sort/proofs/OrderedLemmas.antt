-- There is one list in order in which lines that don't come before one another stay as they stood.
use Rattle.std.proofs.Common.{◌≡◌, ℕ, zero, suc, ◌+◌, ◌<◌, List, [], ◌∷◌, length, get_or, drop, refl, sym, ap, ◌∙◌, subst, arith, Bool, true, false}
use Rattle.std.specs.Prelude.{map}
use Rattle.std.specs.List.{filter}
use Rattle.std.specs.List.Sorted.{IsSortedBy, IsPermutation, IsStableBy, ties}
use Rattle.std.specs.Cmp.{IsStrictWeakOrder}
use Rattle.std.proofs.lemmas.List.Sorted.{sorted_far, IsPermutation-refl, IsPermutation-cons, IsPermutation-trans, IsPermutation-sym, IsPermutation-middle}
use Rattle.ut_sort.specs.Ordered.{inserted, ordered}

-- A list of filtered items.

pub taken : {X : Type 0} (p : X → Bool) (x : X) (xs : List X) → p x ≡ true → filter p (x ∷ xs) ≡ x ∷ filter p xs
taken p x xs h = rw h refl

pub passed : {X : Type 0} (p : X → Bool) (x : X) (xs : List X) → p x ≡ false → filter p (x ∷ xs) ≡ filter p xs
passed p x xs h = rw h refl

abbrev first_or : {X : Type 0} → X → List X → X
first_or x [] = x
first_or x (y ∷ ys) = y

module _ {X : Type 0} (lt : X → X → Bool) (o : IsStrictWeakOrder lt) where
  -- each doesn't come before this one
  abbrev pub AllAbove : X → List X → Type 0
  AllAbove x [] = Unit {0}
  AllAbove x (y ∷ ys) = (lt y x ≡ false) × AllAbove x ys

  abbrev pub Ascends : List X → Type 0
  Ascends [] = Unit {0}
  Ascends (x ∷ xs) = AllAbove x xs × Ascends xs

  not_self : (x : X) → lt x x ≡ false
  not_self x = by (lt x x) refl
    where
      by : (b : Bool) → lt x x ≡ b → lt x x ≡ false
      by false e = e
      by true e = o.one_way x x e

  pub tied : (x y : X) → lt x y ≡ false → lt y x ≡ false → ties lt x y ≡ true
  tied x y h k = rw (h, k) refl

  pub untied : (x y : X) → lt x y ≡ true → ties lt x y ≡ false
  untied x y h = rw h refl

  tied_self : (x : X) → ties lt x x ≡ true
  tied_self x = tied x x (not_self x) (not_self x)

  pub tied_left : (x y : X) → ties lt x y ≡ true → lt x y ≡ false
  tied_left x y h = by (lt x y) refl
    where
      by : (b : Bool) → lt x y ≡ b → lt x y ≡ false
      by false e = e
      by true e = absurd (cc (h, untied x y e))

  pub tied_right : (x y : X) → ties lt x y ≡ true → lt y x ≡ false
  tied_right x y h = by (lt x y) (lt y x) refl refl
    where
      by : (a b : Bool) → lt x y ≡ a → lt y x ≡ b → lt y x ≡ false
      by a false d e = e
      by true true d e = absurd (cc (h, untied x y d))
      by false true d e = (let f : ties lt x y ≡ false = rw (d, e) refl in absurd (cc (h, f)))

  all_above : (x y : X) (ys : List X) → lt y x ≡ false → AllAbove y ys → AllAbove x ys
  all_above x y [] h a = tt
  all_above x y (z ∷ zs) h a = (o.chain z y x a.0 h, all_above x y zs h a.1)

  pub below_all : (x y z : X) → lt x y ≡ true → lt z y ≡ false → lt x z ≡ true
  below_all x y z h k = by (lt x z) refl
    where
      by : (b : Bool) → lt x z ≡ b → lt x z ≡ true
      by true e = e
      by false e = (let f : lt x y ≡ false = o.chain x z y e k in absurd (cc (h, f)))

  none_above : (x y : X) (ys : List X) → lt x y ≡ true → AllAbove y ys → filter (ties lt x) ys ≡ []
  none_above x y [] h a = refl
  none_above x y (z ∷ zs) h a = passed (ties lt x) z zs (untied x z (below_all x y z h a.0)) ∙ none_above x y zs h a.1

  none : (x y : X) (ys : List X) → lt x y ≡ true → AllAbove y ys → filter (ties lt x) (y ∷ ys) ≡ []
  none x y ys h a = passed (ties lt x) y ys (untied x y h) ∙ none_above x y ys h a

  some : (x : X) (xs : List X) → filter (ties lt x) (x ∷ xs) ≡ x ∷ filter (ties lt x) xs
  some x xs = taken (ties lt x) x xs (tied_self x)

  never : (x : X) (xs : List X) → filter (ties lt x) (x ∷ xs) ≡ [] → ⊥
  never x xs h = let e : x ∷ filter (ties lt x) xs ≡ [] = sym (some x xs) ∙ h in cc e

  cancel : (x y : X) (xs ys : List X) → x ≡ y → ((z : X) → filter (ties lt z) (x ∷ xs) ≡ filter (ties lt z) (y ∷ ys)) → (z : X) → filter (ties lt z) xs ≡ filter (ties lt z) ys
  cancel x y xs ys e same z = by (ties lt z x) refl
    where
      by : (b : Bool) → ties lt z x ≡ b → filter (ties lt z) xs ≡ filter (ties lt z) ys
      by true f = ap (drop 1) (sym (taken (ties lt z) x xs f) ∙ (same z ∙ taken (ties lt z) y ys (ap (ties lt z) (sym e) ∙ f)))
      by false f = sym (passed (ties lt z) x xs f) ∙ (same z ∙ passed (ties lt z) y ys (ap (ties lt z) (sym e) ∙ f))

  unique : (xs ys : List X) → Ascends xs → Ascends ys → ((z : X) → filter (ties lt z) xs ≡ filter (ties lt z) ys) → xs ≡ ys
  unique [] [] a b same = refl
  unique [] (y ∷ ys) a b same = absurd (never y ys (sym (same y)))
  unique (x ∷ xs) [] a b same = absurd (never x xs (same x))
  unique (x ∷ xs) (y ∷ ys) a b same = by (lt x y) (lt y x) refl refl (unique xs ys a.1 b.1)
    where
      by : (p q : Bool) → lt x y ≡ p → lt y x ≡ q → (((z : X) → filter (ties lt z) xs ≡ filter (ties lt z) ys) → xs ≡ ys) → x ∷ xs ≡ y ∷ ys
      by true q d e again = absurd (never x xs (same x ∙ none x y ys d b.0))
      by false true d e again = absurd (never y ys (sym (same y) ∙ none y x xs e a.0))
      by false false d e again =
          let f : x ≡ y = ap (first_or x) (sym (some x xs) ∙ (same x ∙ taken (ties lt x) y ys (tied x y d e))) in
          ap (λ z. z ∷ xs) f ∙ ap (λ zs. y ∷ zs) (again (cancel x y xs ys f same))

  far_above : (x : X) (ys : List X) → ((j : ℕ) (d : X) → j < length ys → lt (get_or ys j d) x ≡ false) → AllAbove x ys
  far_above x [] h = tt
  far_above x (y ∷ ys) h = (h 0 y (omega arith), far_above x ys (λ j d l. h (suc j) d (omega arith)))

  ascends : (xs : List X) → IsSortedBy lt xs → Ascends xs
  ascends [] s = tt
  ascends (x ∷ xs) s = (
    far_above x xs (λ j d l. sorted_far lt o (x ∷ xs) s 0 (suc j) d (omega arith) (omega arith)),
    ascends xs (λ k d l m. subst (λ n. lt (get_or (x ∷ xs) n d) (get_or xs k d) ≡ false) (let e : suc k + 1 ≡ suc (k + 1) = omega arith in e) (s (suc k) d (omega arith) (omega arith))),
  )

  above_inserted : (u t : X) (ts : List X) → lt t u ≡ false → AllAbove u ts → AllAbove u (inserted lt t ts)
  above_inserted u t [] h a = (h, tt)
  above_inserted u t (v ∷ vs) h a = by (lt v t) refl (above_inserted u t vs h a.1)
    where
      by : (b : Bool) → lt v t ≡ b → AllAbove u (inserted lt t vs) → AllAbove u (inserted lt t (v ∷ vs))
      by true e again = rw e (a.0, again)
      by false e again = rw e (h, a)

  ascends_inserted : (t : X) (ts : List X) → Ascends ts → Ascends (inserted lt t ts)
  ascends_inserted t [] a = (tt, tt)
  ascends_inserted t (u ∷ us) a = by (lt u t) refl (ascends_inserted t us a.1)
    where
      by : (b : Bool) → lt u t ≡ b → Ascends (inserted lt t us) → Ascends (inserted lt t (u ∷ us))
      by true e again = rw e (above_inserted u t us (o.one_way u t e) a.0, again)
      by false e again = rw e ((e, all_above t u us e a.0), a)

  pub ascends_ordered : (xs : List X) → Ascends (ordered lt xs)
  ascends_ordered [] = tt
  ascends_ordered (x ∷ xs) = ascends_inserted x (ordered lt xs) (ascends_ordered xs)

  -- one that comes before another doesn't tie with what that one ties with
  apart : (t x z : X) → lt t x ≡ true → ties lt z t ≡ true → ties lt z x ≡ false
  apart t x z h k = by (ties lt z x) refl
    where
      by : (b : Bool) → ties lt z x ≡ b → ties lt z x ≡ false
      by false e = e
      by true e = (let f : lt t x ≡ false = o.chain t z x (tied_right z t k) (tied_left z x e) in absurd (cc (h, f)))

  kept_inserted : (z x : X) (ts : List X) → filter (ties lt z) (inserted lt x ts) ≡ filter (ties lt z) (x ∷ ts)
  kept_inserted z x [] = refl
  kept_inserted z x (t ∷ us) = by (lt t x) (ties lt z t) (ties lt z x) refl refl refl (kept_inserted z x us)
    where
      by : (a b c : Bool) → lt t x ≡ a → ties lt z t ≡ b → ties lt z x ≡ c → filter (ties lt z) (inserted lt x us) ≡ filter (ties lt z) (x ∷ us) → filter (ties lt z) (inserted lt x (t ∷ us)) ≡ filter (ties lt z) (x ∷ t ∷ us)
      by false b c e f g again = rw e refl
      by true true c e f g again =
          let n : ties lt z x ≡ false = apart t x z e f in
          rw e (taken (ties lt z) t (inserted lt x us) f ∙ (ap (λ l. t ∷ l) (again ∙ passed (ties lt z) x us n) ∙ (sym (taken (ties lt z) t us f) ∙ sym (passed (ties lt z) x (t ∷ us) n))))
      by true false true e f g again =
          rw e (passed (ties lt z) t (inserted lt x us) f ∙ (again ∙ (taken (ties lt z) x us g ∙ (ap (λ l. x ∷ l) (sym (passed (ties lt z) t us f)) ∙ sym (taken (ties lt z) x (t ∷ us) g)))))
      by true false false e f g again =
          rw e (passed (ties lt z) t (inserted lt x us) f ∙ (again ∙ (passed (ties lt z) x us g ∙ (sym (passed (ties lt z) t us f) ∙ sym (passed (ties lt z) x (t ∷ us) g)))))

  with_first : (p : X → Bool) (x : X) (xs ys : List X) → filter p xs ≡ filter p ys → filter p (x ∷ xs) ≡ filter p (x ∷ ys)
  with_first p x xs ys e = by (p x) refl
    where
      by : (b : Bool) → p x ≡ b → filter p (x ∷ xs) ≡ filter p (x ∷ ys)
      by true f = taken p x xs f ∙ (ap (λ l. x ∷ l) e ∙ sym (taken p x ys f))
      by false f = passed p x xs f ∙ (e ∙ sym (passed p x ys f))

  pub kept_ordered : (z : X) (xs : List X) → filter (ties lt z) (ordered lt xs) ≡ filter (ties lt z) xs
  kept_ordered z [] = refl
  kept_ordered z (x ∷ xs) = kept_inserted z x (ordered lt xs) ∙ with_first (ties lt z) x (ordered lt xs) xs (kept_ordered z xs)

  pub ordered_is : (xs ys : List X) → IsSortedBy lt ys → IsStableBy lt xs ys → ys ≡ ordered lt xs
  ordered_is xs ys s stable = unique ys (ordered lt xs) (ascends ys s) (ascends_ordered xs) (λ z. stable z ∙ sym (kept_ordered z xs))

  next_above : (x : X) (ys : List X) → AllAbove x ys → (d : X) → 0 < length ys → lt (get_or ys 0 d) x ≡ false
  next_above x [] a d h = absurd (omega arith)
  next_above x (y ∷ ys) a d h = a.0

  pub sorted_from : (xs : List X) → Ascends xs → IsSortedBy lt xs
  sorted_from [] a = λ k d low h. absurd (omega arith)
  sorted_from (x ∷ xs) a = λ k d low h. at k d h (sorted_from xs a.1)
    where
      at : (k : ℕ) (d : X) → k + 1 < length (x ∷ xs) → IsSortedBy lt xs → lt (get_or (x ∷ xs) (k + 1) d) (get_or (x ∷ xs) k d) ≡ false
      at zero d h again = next_above x xs a.0 d (omega arith)
      at (suc k) d h again = subst (λ n. lt (get_or (x ∷ xs) n d) (get_or xs k d) ≡ false) (let e : suc (k + 1) ≡ suc k + 1 = omega arith in e) (again k d (omega arith) (omega arith))

permuted_inserted : {X : Type 0} (lt : X → X → Bool) (x : X) (ts : List X) → IsPermutation (x ∷ ts) (inserted lt x ts)
permuted_inserted lt x [] = IsPermutation-refl (x ∷ [])
permuted_inserted lt x (t ∷ us) = by (lt t x) refl (permuted_inserted lt x us)
  where
    by : (b : Bool) → lt t x ≡ b → IsPermutation (x ∷ us) (inserted lt x us) → IsPermutation (x ∷ t ∷ us) (inserted lt x (t ∷ us))
    by false e again = rw e (IsPermutation-refl (x ∷ t ∷ us))
    by true e again = rw e (IsPermutation-trans _ _ _ (IsPermutation-sym _ _ (IsPermutation-middle (t ∷ []) x us)) (IsPermutation-cons t _ _ again))

pub permuted : {X : Type 0} (lt : X → X → Bool) (xs : List X) → IsPermutation xs (ordered lt xs)
permuted lt [] = IsPermutation-refl []
permuted lt (x ∷ xs) = IsPermutation-trans _ _ _ (IsPermutation-cons x _ _ (permuted lt xs)) (permuted_inserted lt x (ordered lt xs))

-- Items that stand for others are in order as these are.

map-inserted : {X Y : Type 0} (f : X → Y) (lt : Y → Y → Bool) (x : X) (ts : List X) → map f (inserted (λ a b. lt (f a) (f b)) x ts) ≡ inserted lt (f x) (map f ts)
map-inserted f lt x [] = refl
map-inserted f lt x (t ∷ us) = by (lt (f t) (f x)) refl (map-inserted f lt x us)
  where
    by : (b : Bool) → lt (f t) (f x) ≡ b → map f (inserted (λ a b. lt (f a) (f b)) x us) ≡ inserted lt (f x) (map f us) → map f (inserted (λ a b. lt (f a) (f b)) x (t ∷ us)) ≡ inserted lt (f x) (map f (t ∷ us))
    by true e again = rw e (ap (λ l. f t ∷ l) again)
    by false e again = rw e refl

pub map-ordered : {X Y : Type 0} (f : X → Y) (lt : Y → Y → Bool) (xs : List X) → map f (ordered (λ a b. lt (f a) (f b)) xs) ≡ ordered lt (map f xs)
map-ordered f lt [] = refl
map-ordered f lt (x ∷ xs) = map-inserted f lt x (ordered (λ a b. lt (f a) (f b)) xs) ∙ ap (inserted lt (f x)) (map-ordered f lt xs)
