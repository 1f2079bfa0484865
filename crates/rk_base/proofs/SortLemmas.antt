-- Sorting gives the one list in order with the same texts.
use Rattle.std.proofs.Common.{◌≡◌, ℕ, suc, ◌+◌, ◌<◌, List, [], ◌∷◌, length, get_or, refl, sym, ap, ◌∙◌, subst, arith, inl, inr, Bool, true, false}
use Rattle.std.specs.Prelude.{◌⊎◌, if◌then◌else◌}
use Rattle.std.specs.List.{sum_by}
use Rattle.std.specs.List.Sorted.{IsSorted, IsPermutation}
use Rattle.std.specs.Cmp.{IsStrictWeakOrder, IsTotalOrder}
use Rattle.std.specs.Cmp.Lexicographic.{nat_list_cmp_total, texts_ties, bytes_decides}
use Rattle.std.specs.Ordering.{nat_cmp, is_lt, is_eq}
use Rattle.std.specs.declared.cmp.Ordering.{Ordering}
use Rattle.std.specs.declared.cmp.Ordering.TheVariants.{Less, Equal, Greater}
use Rattle.std.proofs.lemmas.List.Sorted.{ranks_by, sorted_far, sum_by-IsPermutation}
use Rattle.std.proofs.lemmas.List.Sums.{sum_by-cons}
use Rattle.rk_base.specs.Text.{Text, text_cmp, same_text}
use Rattle.rk_base.specs.Sorted.{is_below, inserted, sorted}

order : IsStrictWeakOrder is_below
order = ranks_by nat_list_cmp_total (λ (x : Text). x)

-- below, the same, or above
compared : (x y : Text) → (is_below x y ≡ true) ⊎ ((x ≡ y) ⊎ (is_below y x ≡ true))
compared x y = by (text_cmp x y) refl
  where
    by : (o : Ordering) → text_cmp x y ≡ o → (is_below x y ≡ true) ⊎ ((x ≡ y) ⊎ (is_below y x ≡ true))
    by Less e = inl (ap is_lt e)
    by Equal e = inr (inl ((bytes_decides x y).0 (texts_ties x y ∙ ap is_eq e)))
    by Greater e = inr (inr (ap is_lt (nat_list_cmp_total.antisymm y x ∙ ap Rattle.std.specs.Ordering.ordering_reverse e)))

-- how often a text stands in a list
abbrev one : Text → Text → ℕ
one z x = if same_text z x then 1 else 0

abbrev times : Text → List Text → ℕ
times z xs = sum_by (one z) xs

times-cons : (z x : Text) (xs : List Text) → times z (x ∷ xs) ≡ one z x + times z xs
times-cons z x xs = sum_by-cons (one z) x xs

one_same : (x : Text) → one x x ≡ 1
one_same x = rw ((bytes_decides x x).1 refl) refl

-- each is at least this one
abbrev AllAbove : Text → List Text → Type 0
AllAbove x [] = Unit {0}
AllAbove x (y ∷ ys) = (is_below y x ≡ false) × AllAbove x ys

abbrev Ascends : List Text → Type 0
Ascends [] = Unit {0}
Ascends (x ∷ xs) = AllAbove x xs × Ascends xs

all_above : (x y : Text) (ys : List Text) → is_below y x ≡ false → AllAbove y ys → AllAbove x ys
all_above x y [] h a = tt
all_above x y (z ∷ zs) h a = (order.chain z y x a.0 h, all_above x y zs h a.1)

-- what is below the first one doesn't stand there
one_none : (x y : Text) → is_below x y ≡ true → one x y ≡ 0
one_none x y h = by (same_text x y) refl
  where
    by : (b : Bool) → same_text x y ≡ b → one x y ≡ 0
    by false e = rw e refl
    by true e = let f : is_below x y ≡ false = ap (λ z. is_below x z) (sym ((bytes_decides x y).0 e)) ∙ below_self x in absurd (cc (f, h))
      where
        below_self : (x : Text) → is_below x x ≡ false
        below_self x = by_self (is_below x x) refl
          where
            by_self : (b : Bool) → is_below x x ≡ b → is_below x x ≡ false
            by_self false e = e
            by_self true e = order.one_way x x e

below_all : (x y e : Text) → is_below x y ≡ true → is_below e y ≡ false → is_below x e ≡ true
below_all x y e h k =
    elim (compared x e) [
      | inl l ↦ l
      | inr r ↦ elim r [
        | inl s ↦ (let f : is_below e y ≡ true = ap (λ z. is_below z y) (sym s) ∙ h in absurd (cc (f, k)))
        | inr g ↦ (let f : is_below e x ≡ false = order.chain e y x k (order.one_way x y h) in absurd (cc (f, g)))
      ]
    ]

times_above : (x y : Text) (ys : List Text) → is_below x y ≡ true → AllAbove y ys → times x ys ≡ 0
times_above x y [] h a = refl
times_above x y (e ∷ es) h a =
    let f : one x e ≡ 0 = one_none x e (below_all x y e h a.0) in
    let g : times x es ≡ 0 = times_above x y es h a.1 in
    let t : times x (e ∷ es) ≡ one x e + times x es = times-cons x e es in
    omega arith

times_none : (x y : Text) (ys : List Text) → is_below x y ≡ true → AllAbove y ys → times x (y ∷ ys) ≡ 0
times_none x y ys h a =
    let f : one x y ≡ 0 = one_none x y h in
    let g : times x ys ≡ 0 = times_above x y ys h a in
    let t : times x (y ∷ ys) ≡ one x y + times x ys = times-cons x y ys in
    omega arith

times_first : (x : Text) (xs : List Text) → times x (x ∷ xs) ≡ 0 → ⊥
times_first x xs h =
    let f : one x x ≡ 1 = one_same x in
    let t : times x (x ∷ xs) ≡ one x x + times x xs = times-cons x x xs in
    omega arith

cancel : (x y : Text) (xs ys : List Text) → x ≡ y → ((z : Text) → times z (x ∷ xs) ≡ times z (y ∷ ys)) → (z : Text) → times z xs ≡ times z ys
cancel x y xs ys e same z =
    let a : times z (x ∷ xs) ≡ one z x + times z xs = times-cons z x xs in
    let b : times z (y ∷ ys) ≡ one z y + times z ys = times-cons z y ys in
    let c : one z x ≡ one z y = ap (one z) e in
    let d : times z (x ∷ xs) ≡ times z (y ∷ ys) = same z in
    omega arith

unique : (xs ys : List Text) → Ascends xs → Ascends ys → ((z : Text) → times z xs ≡ times z ys) → xs ≡ ys
unique [] [] a b same = refl
unique [] (y ∷ ys) a b same = absurd (times_first y ys (sym (same y)))
unique (x ∷ xs) [] a b same = absurd (times_first x xs (same x))
unique (x ∷ xs) (y ∷ ys) a b same =
    elim (compared x y) [
      | inl l ↦ absurd (times_first x xs (same x ∙ times_none x y ys l b.0))
      | inr r ↦ elim r [
        | inl e ↦ ap (λ z. z ∷ xs) e ∙ ap (λ zs. y ∷ zs) (unique xs ys a.1 b.1 (cancel x y xs ys e same))
        | inr g ↦ absurd (times_first y ys (sym (same y) ∙ times_none y x xs g a.0))
      ]
    ]

far_above : (x : Text) (ys : List Text) → ((j : ℕ) (d : Text) → j < length ys → is_below (get_or ys j d) x ≡ false) → AllAbove x ys
far_above x [] h = tt
far_above x (y ∷ ys) h = (h 0 y (omega arith), far_above x ys (λ j d l. h (suc j) d (omega arith)))

pub ascends : (xs : List Text) → IsSorted text_cmp xs → Ascends xs
ascends [] s = tt
ascends (x ∷ xs) s = (
  far_above x xs (λ j d l. sorted_far is_below order (x ∷ xs) s 0 (suc j) d (omega arith) (omega arith)),
  ascends xs (λ k d l m. subst (λ n. is_below (get_or (x ∷ xs) n d) (get_or xs k d) ≡ false) (let e : suc k + 1 ≡ suc (k + 1) = omega arith in e) (s (suc k) d (omega arith) (omega arith))),
)

times_inserted : (z t : Text) (ts : List Text) → times z (inserted t ts) ≡ one z t + times z ts
times_inserted z t [] = times-cons z t []
times_inserted z t (u ∷ us) = by (is_below u t) refl (times_inserted z t us)
  where
    by : (b : Bool) → is_below u t ≡ b → times z (inserted t us) ≡ one z t + times z us → times z (inserted t (u ∷ us)) ≡ one z t + times z (u ∷ us)
    by true e again = rw e (let a : times z (u ∷ inserted t us) ≡ one z u + times z (inserted t us) = times-cons z u (inserted t us) in let b : times z (u ∷ us) ≡ one z u + times z us = times-cons z u us in omega arith)
    by false e again = rw e (times-cons z t (u ∷ us))

times_sorted : (z : Text) (xs : List Text) → times z (sorted xs) ≡ times z xs
times_sorted z [] = refl
times_sorted z (x ∷ xs) =
    let a : times z (inserted x (sorted xs)) ≡ one z x + times z (sorted xs) = times_inserted z x (sorted xs) in
    let b : times z (x ∷ xs) ≡ one z x + times z xs = times-cons z x xs in
    let c : times z (sorted xs) ≡ times z xs = times_sorted z xs in
    omega arith

above_inserted : (u t : Text) (ts : List Text) → is_below t u ≡ false → AllAbove u ts → AllAbove u (inserted t ts)
above_inserted u t [] h a = (h, tt)
above_inserted u t (v ∷ vs) h a = by (is_below v t) refl (above_inserted u t vs h a.1)
  where
    by : (b : Bool) → is_below v t ≡ b → AllAbove u (inserted t vs) → AllAbove u (inserted t (v ∷ vs))
    by true e again = rw e (a.0, again)
    by false e again = rw e (h, a)

ascends_inserted : (t : Text) (ts : List Text) → Ascends ts → Ascends (inserted t ts)
ascends_inserted t [] a = (tt, tt)
ascends_inserted t (u ∷ us) a = by (is_below u t) refl (ascends_inserted t us a.1)
  where
    by : (b : Bool) → is_below u t ≡ b → Ascends (inserted t us) → Ascends (inserted t (u ∷ us))
    by true e again = rw e (above_inserted u t us (order.one_way u t e) a.0, again)
    by false e again = rw e ((e, all_above t u us e a.0), a)

ascends_sorted : (xs : List Text) → Ascends (sorted xs)
ascends_sorted [] = tt
ascends_sorted (x ∷ xs) = ascends_inserted x (sorted xs) (ascends_sorted xs)

pub sorted_is : (xs ys : List Text) → IsPermutation xs ys → IsSorted text_cmp ys → ys ≡ sorted xs
sorted_is xs ys p s = unique ys (sorted xs) (ascends ys s) (ascends_sorted xs) (λ z. sum_by-IsPermutation (one z) xs ys p ∙ sym (times_sorted z xs))
