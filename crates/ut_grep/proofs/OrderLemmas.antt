-- Texts in the order of their bytes.
use Rattle.std.proofs.Common.{◌≡◌, ℕ, zero, suc, ◌<◌, ◌≤◌, List, [], ◌∷◌, length, get_or, Bool, true, false, refl, sym, ap, ◌∙◌, arith, inl, inr, subst, eq-eqb, eqb-true}
use Rattle.std.specs.Prelude.{◌⊎◌, not, ◌&&◌, ◌||◌, ◌==◌, if◌then◌else◌}
use Rattle.std.specs.Cmp.{IsStrictWeakOrder}
use Rattle.std.specs.Cmp.Lexicographic.{nat_list_cmp_total, texts_ties, bytes_decides}
use Rattle.std.specs.List.{list_any}
use Rattle.std.specs.Ordering.{MatchOrdering, nat_cmp, ordering_then, ordering_reverse, is_lt, is_gt, is_eq}
use Rattle.std.specs.declared.cmp.Ordering.{Ordering}
use Rattle.std.specs.declared.cmp.Ordering.TheVariants.{Less, Equal, Greater}
use Rattle.std.proofs.lemmas.Cmp.{ranked}
use Rattle.std.proofs.lemmas.List.Sorted.{ranks_by}
use Rattle.rk_base.specs.Text.{Text, text_cmp, begins_with}
use Rattle.rk_base.specs.Sorted.{is_below, inserted, sorted}
use Rattle.ut_grep.specs.Ordered.{is_at_most, AreOrdered}

order : IsStrictWeakOrder is_below
order = ranks_by nat_list_cmp_total (λ (x : Text). x)

-- at most is not above
above : (a b : Text) → is_at_most a b ≡ not (is_below b a)
above a b = by (text_cmp b a) (nat_list_cmp_total.antisymm a b)
  where
    by : (o : Ordering) → text_cmp a b ≡ ordering_reverse o → not (is_gt (text_cmp a b)) ≡ not (is_lt o)
    by Less e = ap (λ z. not (is_gt z)) e
    by Equal e = ap (λ z. not (is_gt z)) e
    by Greater e = ap (λ z. not (is_gt z)) e

not_true : (b : Bool) → not b ≡ true → b ≡ false
not_true false h = refl
not_true true h = absurd (cc)

pub at_most-trans : (a b c : Text) → is_at_most a b ≡ true → is_at_most b c ≡ true → is_at_most a c ≡ true
at_most-trans a b c h k =
    let below_b = not_true (is_below b a) (sym (above a b) ∙ h) in
    let below_c = not_true (is_below c b) (sym (above b c) ∙ k) in
    above a c ∙ ap not (order.chain c b a below_c below_b)

at_most-below : (a b : Text) → is_below a b ≡ true → is_at_most a b ≡ true
at_most-below a b h = above a b ∙ ap not (order.one_way a b h)

at_most-not_below : (a b : Text) → is_below b a ≡ false → is_at_most a b ≡ true
at_most-not_below a b h = above a b ∙ ap not h

at_most-same : (a b : Text) → a ≡ b → is_at_most a b ≡ true
at_most-same a b e = by (text_cmp a b) (sym (texts_ties a b) ∙ (bytes_decides a b).1 e)
  where
    by : (o : Ordering) → is_eq o ≡ true → not (is_gt o) ≡ true
    by Less h = refl
    by Equal h = refl
    by Greater h = absurd (cc)

pub same_between : (a b : Text) → is_at_most a b ≡ true → is_at_most b a ≡ true → b ≡ a
same_between a b h k = by (text_cmp b a) refl (nat_list_cmp_total.antisymm a b)
  where
    by : (o : Ordering) → text_cmp b a ≡ o → text_cmp a b ≡ ordering_reverse o → b ≡ a
    by Less e f = let g : not (is_gt Greater) ≡ true = ap (λ z. not (is_gt z)) (sym f) ∙ h in absurd (cc)
    by Equal e f = (bytes_decides b a).0 (texts_ties b a ∙ ap is_eq e)
    by Greater e f = let g : not (is_gt Greater) ≡ true = ap (λ z. not (is_gt z)) (sym e) ∙ k in absurd (cc)

heads : (x y : ℕ) (xs ys : Text) → is_at_most (x ∷ xs) (y ∷ ys) ≡ true → (x < y) ⊎ ((x ≡ y) × (is_at_most xs ys ≡ true))
heads x y xs ys h = by (nat_cmp x y) (ranked x y (nat_cmp x y) refl) h
  where
    by : (o : Ordering) → MatchOrdering o (x < y) (x ≡ y) (y < x) → not (is_gt (ordering_then o (text_cmp xs ys))) ≡ true → (x < y) ⊎ ((x ≡ y) × (is_at_most xs ys ≡ true))
    by Less r h = inl r
    by Equal r h = inr (r, h)
    by Greater r h = absurd (cc)

both : (a b : Bool) → a && b ≡ true → (a ≡ true) × (b ≡ true)
both true b h = (refl, h)
both false b h = absurd (cc)

same_number : (x y : ℕ) → (x == y) ≡ true → x ≡ y
same_number x y h = eqb-true x y h

number_same : (x : ℕ) → (x == x) ≡ true
number_same x = eq-eqb x x refl

pub begins-at_most : (p t : Text) → begins_with t p ≡ true → is_at_most p t ≡ true
begins-at_most [] [] h = refl
begins-at_most [] (b ∷ bs) h = refl
begins-at_most (c ∷ cs) [] h = absurd (cc)
begins-at_most (c ∷ cs) (b ∷ bs) h =
    let parts = both (b == c) (begins_with bs cs) h in
    by (same_number b c parts.0) (begins-at_most cs bs parts.1) (nat_cmp c b) (ranked c b (nat_cmp c b) refl)
  where
    by : b ≡ c → is_at_most cs bs ≡ true → (o : Ordering) → MatchOrdering o (c < b) (c ≡ b) (b < c) → not (is_gt (ordering_then o (text_cmp cs bs))) ≡ true
    by e more Less r = refl
    by e more Equal r = more
    by e more Greater r = absurd (omega arith)

pub begins-between : (p q t : Text) → begins_with t p ≡ true → is_at_most p q ≡ true → is_at_most q t ≡ true → begins_with q p ≡ true
begins-between [] q t h a b = refl
begins-between (c ∷ cs) q [] h a b = absurd (cc)
begins-between (c ∷ cs) [] (t ∷ ts) h a b = absurd (cc)
begins-between (c ∷ cs) (q ∷ qs) (t ∷ ts) h a b =
    let parts = both (t == c) (begins_with ts cs) h in
    let e = same_number t c parts.0 in
    by e (λ x y. begins-between cs qs ts parts.1 x y) (heads c q cs qs a) (heads q t qs ts b)
  where
    by : t ≡ c → (is_at_most cs qs ≡ true → is_at_most qs ts ≡ true → begins_with qs cs ≡ true) → (c < q) ⊎ ((c ≡ q) × (is_at_most cs qs ≡ true)) → (q < t) ⊎ ((q ≡ t) × (is_at_most qs ts ≡ true)) → (q == c) && begins_with qs cs ≡ true
    by e more (inl x) (inl y) = absurd (omega arith)
    by e more (inl x) (inr y) = absurd (omega arith)
    by e more (inr x) (inl y) = absurd (omega arith)
    by e more (inr x) (inr y) = rw (eq-eqb q c (sym x.0)) (more x.1 y.1)

pub begins-trans : (p q t : Text) → begins_with t q ≡ true → begins_with q p ≡ true → begins_with t p ≡ true
begins-trans [] q t h k = refl
begins-trans (c ∷ cs) [] t h k = absurd (cc)
begins-trans (c ∷ cs) (q ∷ qs) [] h k = absurd (cc)
begins-trans (c ∷ cs) (q ∷ qs) (t ∷ ts) h k =
    let first = both (t == q) (begins_with ts qs) h in
    let second = both (q == c) (begins_with qs cs) k in
    rw (eq-eqb t c (same_number t q first.0 ∙ same_number q c second.0)) (begins-trans cs qs ts first.1 second.1)

swap_or : (a b c : Bool) → a || (b || c) ≡ b || (a || c)
swap_or true true c = refl
swap_or true false c = refl
swap_or false true c = refl
swap_or false false c = refl

-- the order doesn't matter

any-inserted : (f : Text → Bool) (t : Text) (ts : List Text) → list_any f (inserted t ts) ≡ f t || list_any f ts
any-inserted f t [] = refl
any-inserted f t (x ∷ xs) = by (any-inserted f t xs) (is_below x t)
  where
    by : list_any f (inserted t xs) ≡ f t || list_any f xs → (b : Bool) → list_any f (if b then x ∷ inserted t xs else t ∷ x ∷ xs) ≡ f t || (f x || list_any f xs)
    by more true = ap (λ z. f x || z) more ∙ swap_or (f x) (f t) (list_any f xs)
    by more false = refl

pub any-sorted : (f : Text → Bool) (ts : List Text) → list_any f (sorted ts) ≡ list_any f ts
any-sorted f [] = refl
any-sorted f (t ∷ ts) = any-inserted f t (sorted ts) ∙ ap (λ z. f t || z) (any-sorted f ts)

-- in order from a text on

abbrev Ascends : Text → List Text → Type 0
Ascends last [] = Unit {0}
Ascends last (t ∷ ts) = (is_at_most last t ≡ true) × Ascends t ts

ascends-inserted : (last t : Text) (ts : List Text) → is_at_most last t ≡ true → Ascends last ts → Ascends last (inserted t ts)
ascends-inserted last t [] h a = (h, tt)
ascends-inserted last t (x ∷ xs) h a = by (λ below. ascends-inserted x t xs below a.1) (is_below x t) refl
  where
    by : (is_at_most x t ≡ true → Ascends x (inserted t xs)) → (b : Bool) → is_below x t ≡ b → Ascends last (if b then x ∷ inserted t xs else t ∷ x ∷ xs)
    by more true e = (a.0, more (at_most-below x t e))
    by more false e = (h, (at_most-not_below t x e, a.1))

least : (t : Text) → is_at_most [] t ≡ true
least [] = refl
least (b ∷ bs) = refl

ascends-sorted : (ts : List Text) → Ascends [] (sorted ts)
ascends-sorted [] = tt
ascends-sorted (t ∷ ts) = ascends-inserted [] t (sorted ts) (least t) (ascends-sorted ts)

ascends-far : (t : Text) (ts : List Text) (j : ℕ) → Ascends t ts → j < length ts → is_at_most t (get_or ts j []) ≡ true
ascends-far t [] j a h = absurd (omega arith)
ascends-far t (x ∷ xs) zero a h = a.0
ascends-far t (x ∷ xs) (suc j) a h = at_most-trans t x (get_or xs j []) a.0 (ascends-far x xs j a.1 (omega arith))

ascends-rises : (t : Text) (ts : List Text) (i j : ℕ) → Ascends t ts → i ≤ j → j < length ts → is_at_most (get_or ts i []) (get_or ts j []) ≡ true
ascends-rises t [] i j a le h = absurd (omega arith)
ascends-rises t (x ∷ xs) zero zero a le h = at_most-same x x refl
ascends-rises t (x ∷ xs) zero (suc j) a le h = ascends-far x xs j a.1 (omega arith)
ascends-rises t (x ∷ xs) (suc i) zero a le h = absurd (omega arith)
ascends-rises t (x ∷ xs) (suc i) (suc j) a le h = ascends-rises x xs i j a.1 (omega arith) (omega arith)

pub ordered-sorted : (ts : List Text) → AreOrdered (sorted ts)
ordered-sorted ts = record { rises = λ i j le h. ascends-rises [] (sorted ts) i j (ascends-sorted ts) le h }

-- all between two texts begin as these do
pub begins-among : (ts : List Text) (f : Text) (i j k : ℕ) → AreOrdered ts → i ≤ j → j ≤ k → k < length ts → begins_with (get_or ts i []) f ≡ true → begins_with (get_or ts k []) f ≡ true → begins_with (get_or ts j []) f ≡ true
begins-among ts f i j k o le le' lt a b =
    begins-between f (get_or ts j []) (get_or ts k []) b (at_most-trans f (get_or ts i []) (get_or ts j []) (begins-at_most f (get_or ts i []) a) (o.rises i j le (omega arith))) (o.rises j k le' lt)

-- a text that the first of several begins with is the first, where it is any of them
pub same-first : (ts : List Text) (f : Text) (i j : ℕ) → AreOrdered ts → i ≤ j → j < length ts → begins_with (get_or ts i []) f ≡ true → get_or ts j [] ≡ f → get_or ts i [] ≡ f
same-first ts f i j o le lt b e =
    let P : Text → Type 0 = λ z. is_at_most (get_or ts i []) z ≡ true in
    same_between f (get_or ts i []) (begins-at_most f (get_or ts i []) b) (subst P e (o.rises i j le lt))
