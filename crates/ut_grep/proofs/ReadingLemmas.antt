-- What was read, and its longest end that begins a text.
use Rattle.std.proofs.Common.{◌≡◌, ℕ, List, [], ◌∷◌, ◌++◌, length, take, drop, Bool, true, false, refl, sym, ap, ◌∙◌, inl, inr, subst, arith, ◌<◌}
use Rattle.std.proofs.Math.Seq.{take-append_seam, take-length}
use Rattle.std.specs.Prelude.{◌⊎◌, ◌&&◌, ◌||◌, ◌==◌, if◌then◌else◌}
use Rattle.std.specs.Cmp.Lexicographic.{bytes_decides}
use Rattle.std.specs.List.{list_any}
use Rattle.rk_base.specs.Text.{Text, begins_with, same_text}
use Rattle.ut_grep.specs.Greps.{occurs}
use Rattle.ut_grep.specs.Reading.{begins_any, longest, ends_with, ends_any, is_any}
use Rattle.ut_grep.specs.Standing.{stands_any}
use Rattle.ut_grep.proofs.OrderLemmas.{begins-trans}

-- tests

pub never_true : (b : Bool) → (b ≡ true → ⊥) → b ≡ false
never_true false h = refl
never_true true h = absurd (h refl)

or-true : (a b : Bool) → a || b ≡ true → (a ≡ true) ⊎ (b ≡ true)
or-true true b h = inl refl
or-true false b h = inr h

or-left : (a b : Bool) → a ≡ true → a || b ≡ true
or-left a b h = ap (λ z. z || b) h

or-right : (a b : Bool) → b ≡ true → a || b ≡ true
or-right true b h = refl
or-right false b h = h

or_false : (b : Bool) → b || false ≡ b
or_false true = refl
or_false false = refl

regroup : (a b c d : Bool) → (a || b) || (c || d) ≡ (a || c) || (b || d)
regroup true b c d = refl
regroup false true true d = refl
regroup false true false d = refl
regroup false false c d = refl

any-mono : (f g : Text → Bool) (xs : List Text) → ((x : Text) → f x ≡ true → g x ≡ true) → list_any f xs ≡ true → list_any g xs ≡ true
any-mono f g [] h e = absurd (cc)
any-mono f g (x ∷ xs) h e = by (any-mono f g xs h) (or-true (f x) (list_any f xs) e)
  where
    by : (list_any f xs ≡ true → list_any g xs ≡ true) → (f x ≡ true) ⊎ (list_any f xs ≡ true) → g x || list_any g xs ≡ true
    by more (inl here) = or-left (g x) (list_any g xs) (h x here)
    by more (inr later) = or-right (g x) (list_any g xs) (more later)

any-same : (f g : Text → Bool) (xs : List Text) → ((x : Text) → f x ≡ g x) → list_any f xs ≡ list_any g xs
any-same f g [] h = refl
any-same f g (x ∷ xs) h = ap (λ z. z || list_any f xs) (h x) ∙ ap (λ z. g x || z) (any-same f g xs h)

any-or : (f g : Text → Bool) (xs : List Text) → list_any (λ x. f x || g x) xs ≡ list_any f xs || list_any g xs
any-or f g [] = refl
any-or f g (x ∷ xs) = ap (λ z. (f x || g x) || z) (any-or f g xs) ∙ regroup (f x) (g x) (list_any f xs) (list_any g xs)

-- fronts

pub begins-is : (text front : Text) → begins_with text front ≡ true → take (length front) text ≡ front
begins-is text front h = (bytes_decides (take (length front) text) front).0 h

pub is-begins : (text front : Text) → take (length front) text ≡ front → begins_with text front ≡ true
is-begins text front e = (bytes_decides (take (length front) text) front).1 e

begins-append : (f g : Text) → begins_with (f ++ g) f ≡ true
begins-append f g = is-begins (f ++ g) f (take-append_seam f g)

pub begins-shorter : (text f g : Text) → begins_with text (f ++ g) ≡ true → begins_with text f ≡ true
begins-shorter text f g h = begins-trans f (f ++ g) text h (begins-append f g)

begins_any-shorter : (ts : List Text) (f g : Text) → begins_any ts (f ++ g) ≡ true → begins_any ts f ≡ true
begins_any-shorter ts f g = any-mono (λ x. begins_with x (f ++ g)) (λ x. begins_with x f) ts (λ x. begins-shorter x f g)

begins_any-longer : (ts : List Text) (f g : Text) → begins_any ts f ≡ false → begins_any ts (f ++ g) ≡ false
begins_any-longer ts f g h = never_true _ (λ e. let k = begins_any-shorter ts f g e in cc)

same-begins : (t x : Text) → same_text t x ≡ true → begins_with x t ≡ true
same-begins t x h =
    let e = (bytes_decides t x).0 h in
    let P : Text → Type 0 = λ z. begins_with x z ≡ true in
    subst P (sym e) (is-begins x x (take-length x))

is_any-begins : (ts : List Text) (t : Text) → is_any ts t ≡ true → begins_any ts t ≡ true
is_any-begins ts t = any-mono (same_text t) (λ x. begins_with x t) ts (same-begins t)

-- the longest end

pub longest-begun : (ts : List Text) (t : Text) → begins_any ts t ≡ true → longest ts t ≡ t
longest-begun ts [] h = refl
longest-begun ts (b ∷ bs) h = ap (λ z. if z then b ∷ bs else longest ts bs) h

not_begun : (ts : List Text) (b : ℕ) (bs : Text) → begins_any ts (b ∷ bs) ≡ false → longest ts (b ∷ bs) ≡ longest ts bs
not_begun ts b bs h = ap (λ z. if z then b ∷ bs else longest ts bs) h

pub longest-step : (ts : List Text) (r : Text) (b : ℕ) → longest ts (r ++ b ∷ []) ≡ longest ts (longest ts r ++ b ∷ [])
longest-step ts [] b = refl
longest-step ts (c ∷ r) b = by (longest-step ts r b) (begins_any ts (c ∷ r)) refl
  where
    by : longest ts (r ++ b ∷ []) ≡ longest ts (longest ts r ++ b ∷ []) → (v : Bool) → begins_any ts (c ∷ r) ≡ v → longest ts (c ∷ (r ++ b ∷ [])) ≡ longest ts ((if v then c ∷ r else longest ts r) ++ b ∷ [])
    by more true e = refl
    by more false e = not_begun ts c (r ++ b ∷ []) (begins_any-longer ts (c ∷ r) (b ∷ []) e) ∙ more

pub longest-missed : (ts : List Text) (f : Text) (b : ℕ) → begins_any ts (f ++ b ∷ []) ≡ false → longest ts (f ++ b ∷ []) ≡ longest ts (longest ts (drop 1 f) ++ b ∷ [])
longest-missed ts [] b h = refl
longest-missed ts (c ∷ f) b h = not_begun ts c (f ++ b ∷ []) h ∙ longest-step ts f b

pub longest-none : (ts : List Text) (b : ℕ) → begins_any ts (b ∷ []) ≡ false → longest ts (b ∷ []) ≡ []
longest-none ts b h = not_begun ts b [] h

-- the link of what is one byte longer
pub longest-linked : (ts : List Text) (f : Text) (b : ℕ) → 0 < length f → longest ts (drop 1 (f ++ b ∷ [])) ≡ longest ts (longest ts (drop 1 f) ++ b ∷ [])
longest-linked ts [] b h = absurd (omega arith)
longest-linked ts (c ∷ f) b h = longest-step ts f b

-- which texts end what was read

ends-cons : (ts : List Text) (c : ℕ) (r : Text) → ends_any ts (c ∷ r) ≡ is_any ts (c ∷ r) || ends_any ts r
ends-cons ts c r = any-or (same_text (c ∷ r)) (ends_with r) ts

pub ends-longest : (ts : List Text) (r : Text) → ends_any ts r ≡ ends_any ts (longest ts r)
ends-longest ts [] = refl
ends-longest ts (c ∷ r) = by (ends-longest ts r) (begins_any ts (c ∷ r)) refl
  where
    by : ends_any ts r ≡ ends_any ts (longest ts r) → (v : Bool) → begins_any ts (c ∷ r) ≡ v → ends_any ts (c ∷ r) ≡ ends_any ts (if v then c ∷ r else longest ts r)
    by more true e = refl
    by more false e =
        let none = never_true (is_any ts (c ∷ r)) (λ k. let begun = is_any-begins ts (c ∷ r) k in cc) in
        ends-cons ts c r ∙ (ap (λ z. z || ends_any ts r) none ∙ more)

-- what ends a front is the whole of it, or ends what its link leads to
pub ends-linked : (ts : List Text) (f : Text) → 0 < length f → ends_any ts f ≡ is_any ts f || ends_any ts (longest ts (drop 1 f))
ends-linked ts [] h = absurd (omega arith)
ends-linked ts (c ∷ f) h = ends-cons ts c f ∙ ap (λ z. is_any ts (c ∷ f) || z) (ends-longest ts f)

-- what stands in a line once one more byte is read

begins_none : (p : Text) → begins_with [] p ≡ same_text [] p
begins_none [] = refl
begins_none (d ∷ ds) = refl

and-or : (v a b c : Bool) → a ≡ b || c → v && a ≡ (v && b) || (v && c)
and-or true a b c h = h
and-or false a b c h = refl

begins-one : (x : Text) (b : ℕ) (p : Text) → begins_with (x ++ b ∷ []) p ≡ begins_with x p || same_text (x ++ b ∷ []) p
begins-one [] b [] = refl
begins-one [] b (d ∷ ds) = ap (λ z. (b == d) && z) (begins_none ds)
begins-one (c ∷ cs) b [] = refl
begins-one (c ∷ cs) b (d ∷ ds) = and-or (c == d) _ _ _ (begins-one cs b ds)

occurs-one : (p r : Text) (b : ℕ) → occurs p (r ++ b ∷ []) ≡ occurs p r || ends_with (r ++ b ∷ []) p
occurs-one p [] b =
    ap (λ z. z || begins_with [] p) (begins-one [] b p) ∙ (last (begins_with [] p) (same_text (b ∷ []) p) ∙ ap (λ z. begins_with [] p || (same_text (b ∷ []) p || z)) (begins_none p))
  where
    last : (x y : Bool) → (x || y) || x ≡ x || (y || x)
    last true y = refl
    last false y = refl
occurs-one p (c ∷ r) b =
    ap (λ z. z || occurs p (r ++ b ∷ [])) (begins-one (c ∷ r) b p)
    ∙ (ap (λ z. (begins_with (c ∷ r) p || same_text (c ∷ (r ++ b ∷ [])) p) || z) (occurs-one p r b) ∙ regroup (begins_with (c ∷ r) p) (same_text (c ∷ (r ++ b ∷ [])) p) (occurs p r) (ends_with (r ++ b ∷ []) p))

pub stands-one : (ts : List Text) (r : Text) (b : ℕ) → stands_any false ts (r ++ b ∷ []) ≡ stands_any false ts r || ends_any ts (r ++ b ∷ [])
stands-one ts r b =
    any-same (λ p. occurs p (r ++ b ∷ [])) (λ p. occurs p r || ends_with (r ++ b ∷ []) p) ts (λ p. occurs-one p r b) ∙ any-or (λ p. occurs p r) (ends_with (r ++ b ∷ [])) ts

pub stands-none : (ts : List Text) → stands_any false ts [] ≡ ends_any ts []
stands-none ts = any-same (λ p. occurs p []) (ends_with []) ts begins_none

occurs-more : (p r s : Text) → occurs p r ≡ true → occurs p (r ++ s) ≡ true
occurs-more [] [] [] h = refl
occurs-more [] [] (b ∷ bs) h = refl
occurs-more (d ∷ ds) [] s h = absurd (cc)
occurs-more p (c ∷ r) s h = by (occurs-more p r s) (or-true (begins_with (c ∷ r) p) (occurs p r) h)
  where
    by : (occurs p r ≡ true → occurs p (r ++ s) ≡ true) → (begins_with (c ∷ r) p ≡ true) ⊎ (occurs p r ≡ true) → occurs p ((c ∷ r) ++ s) ≡ true
    by more (inl here) = or-left (begins_with ((c ∷ r) ++ s) p) _ (begins-trans p (c ∷ r) ((c ∷ r) ++ s) (begins-append (c ∷ r) s) here)
    by more (inr later) = or-right (begins_with ((c ∷ r) ++ s) p) _ (more later)

pub stands-more : (ts : List Text) (r s : Text) → stands_any false ts r ≡ true → stands_any false ts (r ++ s) ≡ true
stands-more ts r s = any-mono (λ p. occurs p r) (λ p. occurs p (r ++ s)) ts (λ p. occurs-more p r s)

-- where no text begins as a line does, none is the line
pub is_any-none : (ts : List Text) (f g : Text) → begins_any ts f ≡ false → is_any ts (f ++ g) ≡ false
is_any-none ts f g h = never_true _ (λ e. let k = begins_any-shorter ts f g (is_any-begins ts (f ++ g) e) in cc)
