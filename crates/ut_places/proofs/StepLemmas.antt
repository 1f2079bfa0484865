-- Steps from a set of places.
use Rattle.std.proofs.Common.{◌≡◌, ℕ, List, [], ◌∷◌, ◌++◌, length, get_or, length-append, Some, None, slice_get, zero, suc, ◌+◌, ◌<◌, ◌≤◌, ◌⊎◌, inl, inr, refl, sym, ◌∙◌, ap, arith, subst}
use Rattle.std.specs.Prelude.{◌↔◌}
use Rattle.std.proofs.lemmas.Bool.{cases_lt}
use Rattle.ut_places.specs.declared.places.Places.{Places}
use Rattle.ut_places.specs.Places.{Has, IsNext}
use Rattle.ut_places.specs.Steps.{Steps, UpTo, Counted, Leads, IsImage}
use Rattle.ut_places.proofs.BitLemmas.{has-or-not}

abbrev pub Rel : Type 1
Rel = ℕ → ℕ → Type 0

-- so many steps, one by one

pub no-step : (R : Rel) (set to : Places) → ((j : ℕ) → Has to j ↔ Has set j) → IsImage (Steps R 0) set to
no-step R set to same j = (λ h. (j, (same j).0 h, refl), λ (i, h, e). (same j).1 (subst (Has set) e h))

pub step-more : (R : Rel) (set here to : Places) (n : ℕ) → IsImage (Steps R n) set here → IsImage R here to → IsImage (Steps R (suc n)) set to
step-more R set here to n image next j = (
  λ h. (let f = (next j).0 h in let g = (image f.0).0 f.1 in (g.0, g.1, (f.0, g.2, f.2))),
  λ (i, h, (k, s, r)). (next j).1 (k, (image k).1 (i, h, s), r),
)

pub counted-steps : (R : Rel) (least more : ℕ) (set needed all : Places) → IsImage (Steps R least) set needed → IsImage (UpTo R more) needed all → IsImage (Counted R least more) set all
counted-steps R least more set needed all image next j = (
  λ h. (let f = (next j).0 h in let g = (image f.0).0 f.1 in (g.0, g.1, (f.0, g.2, f.2))),
  λ (i, h, (k, s, u)). (next j).1 (k, (image k).1 (i, h, s), u),
)

-- All places up to so many steps, of which those that are new haven't been left.
pub record IsWave (R : Rel) (set all new : Places) (n : ℕ) : Type 0 where
  pub image : IsImage (UpTo R n) set all
  pub within : (j : ℕ) → Has new j → Has all j
  pub left : (i j : ℕ) → Has all i → R i j → Has all j ⊎ Has new i

pub wave-first : (R : Rel) (set all new : Places) → ((j : ℕ) → Has all j ↔ Has set j) → ((j : ℕ) → Has new j ↔ Has set j) → IsWave R set all new 0
wave-first R set all new same also = record {
  image = λ j. (λ h. (j, (same j).0 h, (0, none, refl)), λ (i, h, (n, le, s)). from n i j le h s);
  within = λ j h. (same j).1 ((also j).0 h);
  left = λ i j h r. inr ((also i).1 ((same i).0 h));
}
  where
    none : 0 ≤ 0
    none = omega arith

    from : (n i j : ℕ) → n ≤ 0 → Has set i → Steps R n i j → Has all j
    from zero i j le h e = (same j).1 (subst (Has set) e h)
    from (suc n) i j le h s = absurd (omega arith)

pub wave-more : (R : Rel) (set all new next after others : Places) (n : ℕ) → IsWave R set all new n → IsImage R new next → ((j : ℕ) → Has others j ↔ (Has next j × (Has all j → ⊥))) → ((j : ℕ) → Has after j ↔ (Has all j ⊎ Has others j)) → IsWave R set after others (suc n)
wave-more R set all new next after others n wave image fresh both = record {
  image = λ j. (λ h. to j ((both j).0 h), λ (i, h, (m, le, s)). from m i j le h s);
  within = λ j h. (both j).1 (inr h);
  left = λ i j h r. leads i j ((both i).0 h) r;
}
  where
    more : (i j : ℕ) → UpTo R n i j → UpTo R (suc n) i j
    more i j (m, le, s) = let h : m ≤ suc n = omega arith in (m, h, s)

    to : (j : ℕ) → Has all j ⊎ Has others j → (i : ℕ) × Has set i × UpTo R (suc n) i j
    to j (inl h) = let f = (wave.image j).0 h in (f.0, f.1, more f.0 j f.2)
    to j (inr h) =
        let g = (image j).0 ((fresh j).0 h).0 in
        let f = (wave.image g.0).0 (wave.within g.0 g.1) in
        let low : f.2.0 ≤ n = f.2.1 in
        let le : suc f.2.0 ≤ suc n = omega arith in
        (f.0, f.1, (suc f.2.0, le, (g.0, f.2.2, g.2)))

    -- where a step leads from what was there before
    on : (k j : ℕ) → Has all k → R k j → Has after j
    on k j h r = elim (wave.left k j h r) as (λ w. Has after j) [ inl a ↦ (both j).1 (inl a) | inr a ↦ found (has-or-not all j) a ]
      where
        found : Has all j ⊎ (Has all j → ⊥) → Has new k → Has after j
        found (inl b) a = (both j).1 (inl b)
        found (inr b) a = (both j).1 (inr ((fresh j).1 ((image j).1 (k, a, r), b)))

    from : (m i j : ℕ) → m ≤ suc n → Has set i → Steps R m i j → Has after j
    from zero i j le h s = let z : 0 ≤ n = omega arith in (both j).1 (inl ((wave.image j).1 (i, h, (0, z, s))))
    from (suc m) i j le h (k, s, r) = let z : m ≤ n = omega arith in on k j ((wave.image k).1 (i, h, (m, z, s))) r

    leads : (i j : ℕ) → Has all i ⊎ Has others i → R i j → Has after j ⊎ Has others i
    leads i j (inl h) r = inl (on i j h r)
    leads i j (inr h) r = inr h

pub wave-end : (R : Rel) (set all new : Places) (n most : ℕ) → n ≤ most → IsWave R set all new n → ((j : ℕ) → Has new j → ⊥) → IsImage (UpTo R most) set all
wave-end R set all new n most le wave none j = (λ h. to ((wave.image j).0 h), λ (i, h, (m, low, s)). on m i j (start i h) s)
  where
    to : (i : ℕ) × Has set i × UpTo R n i j → (i : ℕ) × Has set i × UpTo R most i j
    to (i, h, (m, low, s)) = let z : m ≤ most = omega arith in (i, h, (m, z, s))

    start : (i : ℕ) → Has set i → Has all i
    start i h = let z : 0 ≤ n = omega arith in (wave.image i).1 (i, h, (0, z, refl))

    on : (m i j : ℕ) → Has all i → Steps R m i j → Has all j
    on zero i j h e = subst (Has all) e h
    on (suc m) i j h (k, s, r) = elim (wave.left k j (on m i k h s) r) as (λ w. Has all j) [ inl a ↦ a | inr a ↦ absurd (none k a) ]

-- the sets of a table

pub at-some : {X : Type 0} (xs : List X) (i : ℕ) (d : X) → i < length xs → slice_get xs i ≡ Some (get_or xs i d)
at-some [] i d h = absurd (omega arith)
at-some (x ∷ xs) zero d h = refl
at-some (x ∷ xs) (suc i) d h = at-some xs i d (omega arith)

pub some-below : {X : Type 0} (xs : List X) (i : ℕ) (x : X) → slice_get xs i ≡ Some x → i < length xs
some-below [] i x e = cc
some-below (y ∷ xs) zero x e = omega arith
some-below (y ∷ xs) (suc i) x e = let h : i < length xs = some-below xs i x e in omega arith

-- as far as the places of a set have been left
abbrev pub Imaged : List Places → Places → Places → ℕ → Type 0
Imaged table from to at = (j : ℕ) → Has to j ↔ ((i : ℕ) × (i < at) × Has from i × Leads table i j)

pub imaged-first : (table : List Places) (from to : Places) → ((j : ℕ) → Has to j → ⊥) → Imaged table from to 0
imaged-first table from to none j = (λ h. absurd (none j h), λ (i, lt, h, l). (let z : i < 0 = lt in absurd (omega arith)))

pub imaged-more : (table : List Places) (from to after row : Places) (at place : ℕ) → IsNext from at (length table) (Some place) → slice_get table place ≡ Some row → ((j : ℕ) → Has after j ↔ (Has to j ⊎ Has row j)) → Imaged table from to at → Imaged table from after (place + 1)
imaged-more table from to after row at place (low, high, here, none) e both f j = (λ h. go ((both j).0 h), λ (i, lt, h, l). back i lt h l (cases_lt i place))
  where
    go : Has to j ⊎ Has row j → (i : ℕ) × (i < place + 1) × Has from i × Leads table i j
    go (inl h) = let g = (f j).0 h in let a : g.0 < at = g.1 in let b : g.0 < place + 1 = omega arith in (g.0, b, g.2, g.3)
    go (inr h) = let b : place < place + 1 = omega arith in (place, b, here, (row, e, h))

    row-is : (set : Places) → slice_get table place ≡ Some set → Has set j → Has row j
    row-is set z h = let same : set ≡ row = cc in subst (λ s. Has s j) same h

    back : (i : ℕ) → i < place + 1 → Has from i → Leads table i j → (i < place) ⊎ (place ≤ i) → Has after j
    back i lt h l (inl less) = by (cases_lt i at)
      where
        by : (i < at) ⊎ (at ≤ i) → Has after j
        by (inl b) = (both j).1 (inl ((f j).1 (i, b, h, l)))
        by (inr b) = absurd (none i b less h)
    back i lt h (set, z, l) (inr same) = let q : i ≡ place = omega arith in (both j).1 (inr (row-is set (subst (λ k. slice_get table k ≡ Some set) q z) l))

pub imaged-end : (table : List Places) (from to : Places) (at : ℕ) → IsNext from at (length table) None → Imaged table from to at → IsImage (Leads table) from to
imaged-end table from to at none f j = (λ h. (let g = (f j).0 h in (g.0, g.2, g.3)), λ (i, h, l). by i h l (cases_lt i at))
  where
    by : (i : ℕ) → Has from i → Leads table i j → (i < at) ⊎ (at ≤ i) → Has to j
    by i h l (inl b) = (f j).1 (i, b, h, l)
    by i h (set, e, l) (inr b) = absurd (none i b (some-below table i set e) h)

-- one set more

push-get : {X : Type 0} (xs : List X) (y x : X) (i : ℕ) → slice_get (xs ++ y ∷ []) i ≡ Some x → (slice_get xs i ≡ Some x) ⊎ ((i ≡ length xs) × (y ≡ x))
push-get [] y x zero e = let same : y ≡ x = cc in inr (refl, same)
push-get [] y x (suc i) e = cc
push-get (z ∷ xs) y x zero e = inl e
push-get (z ∷ xs) y x (suc i) e = elim (push-get xs y x i e) as (λ w. (slice_get xs i ≡ Some x) ⊎ ((suc i ≡ length (z ∷ xs)) × (y ≡ x))) [ inl a ↦ inl a | inr a ↦ inr (ap suc a.0, a.1) ]

get-push : {X : Type 0} (xs : List X) (y x : X) (i : ℕ) → slice_get xs i ≡ Some x → slice_get (xs ++ y ∷ []) i ≡ Some x
get-push [] y x i e = cc
get-push (z ∷ xs) y x zero e = e
get-push (z ∷ xs) y x (suc i) e = get-push xs y x i e

get-last : {X : Type 0} (xs : List X) (y : X) → slice_get (xs ++ y ∷ []) (length xs) ≡ Some y
get-last [] y = refl
get-last (z ∷ xs) y = get-last xs y

pub leads-push : (sets : List Places) (set : Places) (i j : ℕ) → Leads (sets ++ set ∷ []) i j ↔ (Leads sets i j ⊎ ((i ≡ length sets) × Has set j))
leads-push sets set i j = (λ (own, e, h). to own e h, from)
  where
    to : (own : Places) → slice_get (sets ++ set ∷ []) i ≡ Some own → Has own j → Leads sets i j ⊎ ((i ≡ length sets) × Has set j)
    to own e h = elim (push-get sets set own i e) as (λ w. Leads sets i j ⊎ ((i ≡ length sets) × Has set j)) [ inl a ↦ inl (own, a, h) | inr a ↦ inr (a.0, subst (λ s. Has s j) (sym a.1) h) ]

    from : Leads sets i j ⊎ ((i ≡ length sets) × Has set j) → Leads (sets ++ set ∷ []) i j
    from (inl (own, e, h)) = (own, get-push sets set own i e, h)
    from (inr (e, h)) = (set, subst (λ n. slice_get (sets ++ set ∷ []) n ≡ Some set) (sym e) (get-last sets set), h)

-- the sets that have been gone through
pub record IsEach (R : Rel) (sets : List Places) (n : ℕ) (all : List Places) : Type 0 where
  pub count : length all ≡ n
  pub to : (i j : ℕ) → Leads all i j → (k : ℕ) × Leads sets i k × R k j
  pub from : (i j k : ℕ) → i < n → Leads sets i k → R k j → Leads all i j

pub each-first : (R : Rel) (sets : List Places) → IsEach R sets 0 []
each-first R sets = record { count = refl; to = λ i j (own, e, h). absurd (none i own e); from = λ i j k lt l r. absurd (omega arith) }
  where
    none : (i : ℕ) (own : Places) → slice_get [] i ≡ Some own → ⊥
    none i own e = cc

pub each-more : (R : Rel) (sets all : List Places) (set to : Places) (n : ℕ) → slice_get sets n ≡ Some set → IsImage R set to → IsEach R sets n all → IsEach R sets (n + 1) (all ++ to ∷ [])
each-more R sets all set to n e image each = record {
  count = (let a : length (all ++ to ∷ []) ≡ length all + 1 = length-append all (to ∷ []) in let b : length all ≡ n = each.count in omega arith);
  to = λ i j l. go i j ((leads-push all to i j).0 l);
  from = λ i j k lt l r. back i j k lt l r (cases_lt i n);
}
  where
    go : (i j : ℕ) → Leads all i j ⊎ ((i ≡ length all) × Has to j) → (k : ℕ) × Leads sets i k × R k j
    go i j (inl l) = each.to i j l
    go i j (inr (z, h)) =
        let f = (image j).0 h in
        let same : n ≡ i = sym (z ∙ each.count) in
        (f.0, (set, subst (λ m. slice_get sets m ≡ Some set) same e, f.1), f.2)

    back : (i j k : ℕ) → i < n + 1 → Leads sets i k → R k j → (i < n) ⊎ (n ≤ i) → Leads (all ++ to ∷ []) i j
    back i j k lt l r (inl less) = (leads-push all to i j).1 (inl (each.from i j k less l r))
    back i j k lt (own, z, h) r (inr ge) =
        let same : i ≡ n = omega arith in
        let is : own ≡ set = read i own z same in
        (leads-push all to i j).1 (inr (same ∙ sym each.count, (image j).1 (k, subst (λ s. Has s k) is h, r)))
      where
        read : (i : ℕ) (own : Places) → slice_get sets i ≡ Some own → i ≡ n → own ≡ set
        read i own z same = let w = subst (λ m. slice_get sets m ≡ Some own) same z in cc

pub each-all : (R : Rel) (sets all : List Places) (n : ℕ) → length sets ≤ n → IsEach R sets n all → (i j : ℕ) → Leads all i j ↔ ((k : ℕ) × Leads sets i k × R k j)
each-all R sets all n h each i j = (each.to i j, λ (k, l, r). from k l r)
  where
    from : (k : ℕ) → Leads sets i k → R k j → Leads all i j
    from k (own, e, g) r = let b : i < length sets = some-below sets i own e in let c : i < n = omega arith in each.from i j k c (own, e, g) r
