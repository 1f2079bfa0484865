-- Of lines in order that are the same the first is left.
use Rattle.std.proofs.Common.{◌≡◌, List, [], ◌∷◌, refl, sym, ap, ◌∙◌, Bool, true, false}
use Rattle.std.specs.Prelude.{not, ◌&&◌, take}
use Rattle.std.specs.List.{filter}
use Rattle.std.specs.List.Sorted.{ties}
use Rattle.std.specs.Cmp.{IsStrictWeakOrder}
use Rattle.std.specs.Ordering.{is_lt, is_eq, ordering_reverse}
use Rattle.std.specs.declared.cmp.Ordering.{Ordering}
use Rattle.std.specs.declared.cmp.Ordering.TheVariants.{Less, Equal, Greater}
use Rattle.rk_base.specs.Text.{Text}
use Rattle.ut_sort.specs.Orders.{SortValue, line_cmp, is_before, is_same}
use Rattle.ut_sort.specs.Sorts.{unlike, distinct, in_order}
use Rattle.ut_sort.proofs.OrderLemmas.{line_total, line_order}
use Rattle.ut_sort.proofs.OrderedLemmas.{taken, passed, AllAbove, Ascends, tied, untied, tied_left, tied_right, below_all, ascends_ordered, kept_ordered}

module _ (lt : Text → Text → Bool) (o : IsStrictWeakOrder lt) (same : Text → Text → Bool) (agrees : (a b : Text) → same a b ≡ ties lt a b) where
  tied_through : (z n y : Text) → ties lt z n ≡ true → ties lt n y ≡ true → ties lt z y ≡ true
  tied_through z n y h k = tied lt o z y (o.chain z n y (tied_left lt o z n h) (tied_left lt o n y k)) (o.chain y n z (tied_right lt o n y k) (tied_right lt o z n h))

  turned : (a b : Text) → ties lt a b ≡ true → ties lt b a ≡ true
  turned a b h = tied lt o b a (tied_right lt o a b h) (tied_left lt o a b h)

  -- a line that comes after this one and isn't the same is above it
  beyond : (y n : Text) → lt n y ≡ false → ties lt y n ≡ false → lt y n ≡ true
  beyond y n h k = by (lt y n) refl
    where
      by : (b : Bool) → lt y n ≡ b → lt y n ≡ true
      by true e = e
      by false e = absurd (cc (k, tied lt o y n e h))

  none_beyond : (z n : Text) (more : List Text) → lt z n ≡ true → AllAbove lt o n more → Ascends lt o more → filter (ties lt z) (unlike same n more) ≡ []
  none_beyond z n [] h a s = refl
  none_beyond z n (m ∷ more) h a s = by (same n m) refl (none_beyond z n more h a.1 s.1) (none_beyond z m more (below_all lt o z n m h a.0) s.0 s.1)
    where
      by : (b : Bool) → same n m ≡ b → filter (ties lt z) (unlike same n more) ≡ [] → filter (ties lt z) (unlike same m more) ≡ [] → filter (ties lt z) (unlike same n (m ∷ more)) ≡ []
      by true e here on = rw e here
      by false e here on = rw e (passed (ties lt z) m (unlike same m more) (untied lt o z m (below_all lt o z n m h a.0)) ∙ on)

  none_more : (z y : Text) (ys : List Text) → ties lt z y ≡ true → AllAbove lt o y ys → Ascends lt o ys → filter (ties lt z) (unlike same y ys) ≡ []
  none_more z y [] h a s = refl
  none_more z y (n ∷ more) h a s = by (same y n) refl (none_more z y more h a.1 s.1)
    where
      above : ties lt y n ≡ false → lt z n ≡ true
      above k = by_above (lt z n) refl
        where
          by_above : (b : Bool) → lt z n ≡ b → lt z n ≡ true
          by_above true e = e
          by_above false e = (let f : lt y n ≡ false = o.chain y z n (tied_right lt o z y h) e in absurd (cc (f, beyond y n a.0 k)))

      by : (b : Bool) → same y n ≡ b → filter (ties lt z) (unlike same y more) ≡ [] → filter (ties lt z) (unlike same y (n ∷ more)) ≡ []
      by true e here = rw e here
      by false e here =
          let k : lt z n ≡ true = above (sym (agrees y n) ∙ e) in
          rw e (passed (ties lt z) n (unlike same n more) (untied lt o z n k) ∙ none_beyond z n more k s.0 s.1)

  first_more : (z y : Text) (ys : List Text) → ties lt z y ≡ false → AllAbove lt o y ys → Ascends lt o ys → filter (ties lt z) (unlike same y ys) ≡ take 1 (filter (ties lt z) ys)
  first_more z y [] h a s = refl
  first_more z y (n ∷ more) h a s = by (same y n) refl (first_more z y more h a.1 s.1) (λ k. first_more z n more k s.0 s.1)
    where
      apart : ties lt y n ≡ true → ties lt z n ≡ false
      apart k = by_apart (ties lt z n) refl
        where
          by_apart : (b : Bool) → ties lt z n ≡ b → ties lt z n ≡ false
          by_apart false e = e
          by_apart true e = absurd (cc (h, tied_through z n y e (turned y n k)))

      next : (b : Bool) → ties lt z n ≡ b → (ties lt z n ≡ false → filter (ties lt z) (unlike same n more) ≡ take 1 (filter (ties lt z) more)) → filter (ties lt z) (n ∷ unlike same n more) ≡ take 1 (filter (ties lt z) (n ∷ more))
      next true e on = taken (ties lt z) n (unlike same n more) e ∙ (ap (λ l. n ∷ l) (none_more z n more e s.0 s.1) ∙ ap (take 1) (sym (taken (ties lt z) n more e)))
      next false e on = passed (ties lt z) n (unlike same n more) e ∙ (on e ∙ ap (take 1) (sym (passed (ties lt z) n more e)))

      by : (b : Bool) → same y n ≡ b → filter (ties lt z) (unlike same y more) ≡ take 1 (filter (ties lt z) more) → (ties lt z n ≡ false → filter (ties lt z) (unlike same n more) ≡ take 1 (filter (ties lt z) more)) → filter (ties lt z) (unlike same y (n ∷ more)) ≡ take 1 (filter (ties lt z) (n ∷ more))
      by true e here on = rw e (here ∙ ap (take 1) (sym (passed (ties lt z) n more (apart (sym (agrees y n) ∙ e)))))
      by false e here on = rw e (next (ties lt z n) refl on)

  first_of : (z : Text) (ys : List Text) → Ascends lt o ys → filter (ties lt z) (distinct same ys) ≡ take 1 (filter (ties lt z) ys)
  first_of z [] s = refl
  first_of z (y ∷ ys) s = by (ties lt z y) refl
    where
      by : (b : Bool) → ties lt z y ≡ b → filter (ties lt z) (y ∷ unlike same y ys) ≡ take 1 (filter (ties lt z) (y ∷ ys))
      by true e = taken (ties lt z) y (unlike same y ys) e ∙ (ap (λ l. y ∷ l) (none_more z y ys e s.0 s.1) ∙ ap (take 1) (sym (taken (ties lt z) y ys e)))
      by false e = passed (ties lt z) y (unlike same y ys) e ∙ (first_more z y ys e s.0 s.1 ∙ ap (take 1) (sym (passed (ties lt z) y ys e)))

alike : {X : Type 0} (p q : X → Bool) → ((x : X) → p x ≡ q x) → (xs : List X) → filter p xs ≡ filter q xs
alike p q h [] = refl
alike p q h (x ∷ xs) = by (q x) refl (alike p q h xs)
  where
    by : (b : Bool) → q x ≡ b → filter p xs ≡ filter q xs → filter p (x ∷ xs) ≡ filter q (x ∷ xs)
    by true e again = taken p x xs (h x ∙ e) ∙ (ap (λ l. x ∷ l) again ∙ sym (taken q x xs e))
    by false e again = passed p x xs (h x ∙ e) ∙ (again ∙ sym (passed q x xs e))

same-ties : (s : SortValue) (a b : Text) → is_same s a b ≡ ties (is_before s) a b
same-ties s a b = by (line_cmp s a b) refl
  where
    by : (r : Ordering) → line_cmp s a b ≡ r → is_same s a b ≡ ties (is_before s) a b
    by r e = rw ((line_total s).antisymm b a, e) (at r)
      where
        at : (r : Ordering) → is_eq r ≡ (not (is_lt r) && not (is_lt (ordering_reverse r)))
        at Less = refl
        at Equal = refl
        at Greater = refl

pub keeps_first : (s : SortValue) (lines : List Text) (line : Text) → filter (is_same s line) (distinct (is_same s) (in_order s lines)) ≡ take 1 (filter (is_same s line) lines)
keeps_first s lines line =
    alike (is_same s line) (ties (is_before s) line) (same-ties s line) (distinct (is_same s) (in_order s lines))
    ∙ (first_of (is_before s) (line_order s) (is_same s) (same-ties s) line (in_order s lines) (ascends_ordered (is_before s) (line_order s) lines)
    ∙ (ap (take 1) (kept_ordered (is_before s) (line_order s) line lines) ∙ ap (take 1) (sym (alike (is_same s line) (ties (is_before s) line) (same-ties s line) lines))))
