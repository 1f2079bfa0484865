-- Tables, as they are kept.
use Rattle.std.proofs.Common.{◌≡◌, ◌≢◌, ◌∙◌, refl, sym, ap, subst, ℕ, zero, suc, ◌<◌, ◌≤◌, true, cond, nat_lt, List, [], ◌∷◌, ◌++◌, length, take, get_or, arith}
use Rattle.std.specs.Prelude.{remove}
use Rattle.std.specs.List.{AllByRecursion}
use Rattle.std.proofs.lemmas.Bool.{ltb-true, ltb-false, lt-ltb}
use Rattle.std.proofs.lemmas.List.{get_or-map, length-take}
use Rattle.tr_nodes.proofs.GetLemmas.{by_cases}
use Rattle.tr_record.specs.Generations.{table_at, AreGenerations, IsNew}
use Rattle.tr_record.specs.Keeping.{tables_in, IsKnown, IsKept}
use Rattle.tr_record.specs.Known.{AreKnown}
use Rattle.tr_record.specs.declared.kept.Generation.{Generation}
use Rattle.tr_record.specs.declared.records.Record.{Record}

pub table_read : (all : List Generation) (i : ℕ) (it d : Generation) → i < length all → it ≡ get_or all i d → it.table ≡ table_at i (tables_in all)
table_read all i it d lt e = ap (λ (g : Generation). g.table) e ∙ sym (get_or-map (λ (g : Generation). g.table) all i d [] lt)

known_read : (all : List Generation) (i : ℕ) (d : Generation) → AllByRecursion IsKnown all → i < length all → IsKnown (get_or all i d)
known_read [] i d h lt = absurd (omega arith)
known_read (x ∷ xs) zero d h lt = h.0
known_read (x ∷ xs) (suc i) d h lt = known_read xs i d h.1 (omega arith)

pub known_at : (all : List Generation) (i : ℕ) (it d : Generation) → AllByRecursion IsKnown all → i < length all → it ≡ get_or all i d → AreKnown it.known (table_at i (tables_in all))
known_at all i it d h lt e =
    let same = table_read all i it d lt e in
    let known : IsKnown it = subst IsKnown (sym e) (known_read all i d h lt) in
    subst (λ (t : List Record). AreKnown it.known t) same known

-- ---- what stays known

pub known_push : (all : List Generation) (it : Generation) → AllByRecursion IsKnown all → IsKnown it → AllByRecursion IsKnown (all ++ it ∷ [])
known_push [] it h k = (k, tt)
known_push (x ∷ xs) it h k = (h.0, known_push xs it h.1 k)

pub known_remove : (all : List Generation) (i : ℕ) → AllByRecursion IsKnown all → AllByRecursion IsKnown (remove all i)
known_remove [] zero h = tt
known_remove [] (suc i) h = tt
known_remove (x ∷ xs) zero h = h.1
known_remove (x ∷ xs) (suc i) h = (h.0, known_remove xs i h.1)

pub known_take : (n : ℕ) (all : List Generation) → AllByRecursion IsKnown all → AllByRecursion IsKnown (take n all)
known_take zero all h = tt
known_take (suc n) [] h = tt
known_take (suc n) (x ∷ xs) h = (h.0, known_take n xs h.1)

-- ---- the tables of what stays

pub tables_remove : (all : List Generation) (i : ℕ) → tables_in (remove all i) ≡ remove (tables_in all) i
tables_remove [] zero = refl
tables_remove [] (suc i) = refl
tables_remove (x ∷ xs) zero = refl
tables_remove (x ∷ xs) (suc i) = ap (λ l. x.table ∷ l) (tables_remove xs i)

pub tables_take : (n : ℕ) (all : List Generation) → tables_in (take n all) ≡ take n (tables_in all)
tables_take zero all = refl
tables_take (suc n) [] = refl
tables_take (suc n) (x ∷ xs) = ap (λ l. x.table ∷ l) (tables_take n xs)

-- ---- one that moves to the front

-- where what stands at a place stood before one was taken out
abbrev source : ℕ → ℕ → ℕ
source i j = cond (nat_lt j i) j (suc j)

removed_get : {X : Type 0} (xs : List X) (i j : ℕ) (d : X) → get_or (remove xs i) j d ≡ get_or xs (source i j) d
removed_get {X = X} xs i j d = by_cases (nat_lt j i) (get_or (remove xs i) j d ≡ get_or xs (source i j) d)
    (λ t. before xs i j (ltb-true j i t) ∙ ap (λ b. get_or xs (cond b j (suc j)) d) (sym t))
    (λ f. behind xs i j (ltb-false j i f) ∙ ap (λ b. get_or xs (cond b j (suc j)) d) (sym f))
  where
    before : (xs : List X) (i j : ℕ) → j < i → get_or (remove xs i) j d ≡ get_or xs j d
    before [] zero j lt = refl
    before [] (suc i) j lt = refl
    before (x ∷ xs) zero j lt = absurd (omega arith)
    before (x ∷ xs) (suc i) zero lt = refl
    before (x ∷ xs) (suc i) (suc j) lt = before xs i j (omega arith)

    behind : (xs : List X) (i j : ℕ) → i ≤ j → get_or (remove xs i) j d ≡ get_or xs (suc j) d
    behind [] zero j le = refl
    behind [] (suc i) j le = refl
    behind (x ∷ xs) zero j le = refl
    behind (x ∷ xs) (suc i) zero le = absurd (omega arith)
    behind (x ∷ xs) (suc i) (suc j) le = behind xs i j (omega arith)

removed_length : {X : Type 0} (xs : List X) (i : ℕ) → i < length xs → suc (length (remove xs i)) ≡ length xs
removed_length [] i lt = absurd (omega arith)
removed_length (x ∷ xs) zero lt = refl
removed_length (x ∷ xs) (suc i) lt = ap suc (removed_length xs i (omega arith))

record IsSource (i j at : ℕ) : Type 0 where
  other : at ≢ i
  least : j ≤ at
  most : at ≤ suc j

sourced : (i j : ℕ) → IsSource i j (source i j)
sourced i j = by_cases (nat_lt j i) (IsSource i j (source i j))
    (λ t. let lt = ltb-true j i t in subst (λ b. IsSource i j (cond b j (suc j))) (sym t) (record { other = λ e. absurd (omega arith); least = omega arith; most = omega arith }))
    (λ f. let le = ltb-false j i f in subst (λ b. IsSource i j (cond b j (suc j))) (sym f) (record { other = λ e. absurd (omega arith); least = omega arith; most = omega arith }))

ascends : (i a b : ℕ) → a < b → source i a < source i b
ascends i a b lt =
    let t : suc a ≤ b = omega arith in
    by_cases (nat_lt b i) (source i a < source i b)
    (λ h. let less = ltb-true b i h in
    let first : nat_lt a i ≡ true = lt-ltb a i (omega arith) in
    subst (λ x. cond x a (suc a) < source i b) (sym first) (subst (λ y. a < cond y b (suc b)) (sym h) lt))
    (λ h. let s = sourced i a in let m = s.most in subst (λ y. source i a < cond y b (suc b)) (sym h) (omega arith))

other_than : (kept : List (List Record)) (i j : ℕ) → AreGenerations kept → i < length kept → j < length kept → j ≢ i → table_at i kept ≢ table_at j kept
other_than kept i j h lt less other e =
    by_cases (nat_lt i j) ⊥ (λ t. h.distinct i j (ltb-true i j t) less e)
    (λ f. by_cases (nat_lt j i) ⊥ (λ t. h.distinct j i (ltb-true j i t) lt (sym e)) (λ g. other (let a = ltb-false i j f in let b = ltb-false j i g in omega arith)))

pub moved : (kept : List (List Record)) (i : ℕ) (table : List Record) → AreGenerations kept → i < length kept → table_at i kept ≡ table → table ≢ [] → AreGenerations (table ∷ remove kept i)
moved kept i table h lt is some = record {
  few = let n = removed_length kept i lt in let f = h.few in omega arith;
  full = full;
  distinct = distinct;
}
  where
    within : (j : ℕ) → j < length (remove kept i) → source i j < length kept
    within j less = let n = removed_length kept i lt in let s = sourced i j in let m = s.most in omega arith

    full : (j : ℕ) → j < length (table ∷ remove kept i) → table_at j (table ∷ remove kept i) ≢ []
    full zero less = some
    full (suc j) less = λ e. h.full (source i j) (within j (omega arith)) (sym (removed_get kept i j []) ∙ e)

    distinct : (a b : ℕ) → a < b → b < length (table ∷ remove kept i) → table_at a (table ∷ remove kept i) ≢ table_at b (table ∷ remove kept i)
    distinct a zero less below = absurd (omega arith)
    distinct zero (suc b) less below = λ e. let s = sourced i b in other_than kept i (source i b) h lt (within b (omega arith)) s.other (is ∙ e ∙ removed_get kept i b [])
    distinct (suc a) (suc b) less below = λ e.
        h.distinct (source i a) (source i b) (ascends i a b (omega arith)) (within b (omega arith)) (sym (removed_get kept i a []) ∙ e ∙ removed_get kept i b [])

pub kept_moved : (all : List Generation) (i : ℕ) (it : Generation) → IsKept all → IsKnown it → it.table ≢ [] → i < length (tables_in all) → table_at i (tables_in all) ≡ it.table → IsKept (it ∷ remove all i)
kept_moved all i it h known some lt is = record {
  are = subst (λ l. AreGenerations (it.table ∷ l)) (sym (tables_remove all i)) (moved (tables_in all) i it.table h.are lt is some);
  known = (known, known_remove all i h.known);
}

-- ---- one that is new

take_get : {X : Type 0} (n : ℕ) (xs : List X) (j : ℕ) (d : X) → j < n → get_or (take n xs) j d ≡ get_or xs j d
take_get zero xs j d lt = absurd (omega arith)
take_get (suc n) [] j d lt = refl
take_get (suc n) (x ∷ xs) zero d lt = refl
take_get (suc n) (x ∷ xs) (suc j) d lt = take_get n xs j d (omega arith)

pub put_first : (kept : List (List Record)) (table : List Record) → AreGenerations kept → IsNew table kept → table ≢ [] → AreGenerations (take 8 (table ∷ kept))
put_first kept table h new some = record {
  few = let n = length-take 8 (table ∷ kept) in omega arith;
  full = λ j lt. full j (first j lt) (within j lt);
  distinct = λ a b less lt e. distinct a b less (within b lt) (sym (take_get 8 (table ∷ kept) a [] (let f = first b lt in omega arith)) ∙ e ∙ take_get 8 (table ∷ kept) b [] (first b lt));
}
  where
    first : (j : ℕ) → j < length (take 8 (table ∷ kept)) → j < 8
    first j lt = let n = length-take 8 (table ∷ kept) in omega arith

    within : (j : ℕ) → j < length (take 8 (table ∷ kept)) → j < suc (length kept)
    within j lt = let n = length-take 8 (table ∷ kept) in omega arith

    full : (j : ℕ) → j < 8 → j < suc (length kept) → table_at j (take 8 (table ∷ kept)) ≢ []
    full zero lt less = some
    full (suc j) lt less = λ e. h.full j (omega arith) (sym (take_get 8 (table ∷ kept) (suc j) [] lt) ∙ e)

    distinct : (a b : ℕ) → a < b → b < suc (length kept) → table_at a (table ∷ kept) ≢ table_at b (table ∷ kept)
    distinct a zero less lt = absurd (omega arith)
    distinct zero (suc b) less lt = λ e. new b (omega arith) (sym e)
    distinct (suc a) (suc b) less lt = h.distinct a b (omega arith) (omega arith)

pub kept_first : (all : List Generation) (it : Generation) → IsKept all → IsKnown it → it.table ≢ [] → IsNew it.table (tables_in all) → IsKept (take 8 (it ∷ all))
kept_first all it h known some new = record {
  are = subst AreGenerations (sym (tables_take 8 (it ∷ all))) (put_first (tables_in all) it.table h.are new some);
  known = known_take 8 (it ∷ all) (known, h.known);
}
