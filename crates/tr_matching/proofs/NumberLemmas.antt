-- The numbers of a key's records, table by table.
use Rattle.std.proofs.Common.{◌≡◌, ◌≢◌, ℕ, zero, suc, ◌+◌, ◌≤◌, ◌<◌, true, false, cond, List, [], ◌∷◌, ◌++◌, length, take, drop, map, Some, slice_get, refl, sym, ◌∙◌, ap, arith, append_assoc, append-nil}
use Rattle.std.proofs.lemmas.List.{take_all, length-map}
use Rattle.rk_calls.specs.Keys.{KeyValue, same_key}
use Rattle.tr_nodes.proofs.GetLemmas.{get_some}
use Rattle.tr_record.specs.declared.records.Record.{Record}
use Rattle.tr_record.specs.Generations.{records}
use Rattle.tr_record.specs.Places.{places_from, places_of}
use Rattle.tr_record.specs.Rec.{AreNumbered, count_of, rec_at}
use Rattle.tr_record.proofs.PlacesLemmas.{found_place, length-places_of, some_place}

-- ---- numbers that count from another one on

places-shift : (j n : ℕ) (key : KeyValue) (t : List Record) → places_from (j + n) key t ≡ map (λ i. j + i) (places_from n key t)
places-shift j n key [] = refl
places-shift j n key (rec ∷ t) =
    let e : suc (j + n) ≡ j + suc n = omega arith in
    let rest = ap (λ m. places_from m key t) e ∙ places-shift j (suc n) key t in
    elim (same_key rec.key key) as (λ b. cond b ((j + n) ∷ places_from (suc (j + n)) key t) (places_from (suc (j + n)) key t) ≡ map (λ i. j + i) (cond b (n ∷ places_from (suc n) key t) (places_from (suc n) key t))) [
      | true ↦ ap (λ l. (j + n) ∷ l) rest
      | false ↦ rest
    ]

places-by : (j : ℕ) (key : KeyValue) (t : List Record) → places_from j key t ≡ map (λ i. j + i) (places_of key t)
unfolding places_of
places-by j key t = ap (λ m. places_from m key t) (let e : j ≡ j + 0 = omega arith in e) ∙ places-shift j 0 key t

length-places : (j : ℕ) (key : KeyValue) (t : List Record) → length (places_from j key t) ≡ count_of key t
length-places j key t = ap length (places-by j key t) ∙ length-map (places_of key t) (λ i. j + i) ∙ length-places_of key t

get-map : (f : ℕ → ℕ) (xs : List ℕ) (o x : ℕ) → slice_get xs o ≡ Some x → slice_get (map f xs) o ≡ Some (f x)
get-map f [] o x h = absurd cc
get-map f (y ∷ xs) zero x h = let e : y ≡ x = cc in ap (λ n. Some (f n)) e
get-map f (y ∷ xs) (suc o) x h = get-map f xs o x h

take-next : (xs : List ℕ) (o x : ℕ) → slice_get xs o ≡ Some x → take (o + 1) xs ≡ take o xs ++ x ∷ []
take-next [] o x h = absurd cc
take-next (y ∷ xs) zero x h = let e : y ≡ x = cc in ap (λ n. n ∷ []) e
take-next (y ∷ xs) (suc o) x h = let n : suc o + 1 ≡ suc (o + 1) = omega arith in ap (λ m. take m (y ∷ xs)) n ∙ ap (λ l. y ∷ l) (take-next xs o x h)

-- the number of the record with so many earlier ones of its key
pub number-next : (key : KeyValue) (t : List Record) (first o i n : ℕ) → AreNumbered t → i < length t → (rec_at i t).key ≡ key → (rec_at i t).ordinal ≡ o → n ≡ first + i → take (o + 1) (places_from first key t) ≡ take o (places_from first key t) ++ n ∷ []
number-next key t first o i n numbered lt ek eo en =
    let count : count_of key (take i t) ≡ o = ap (λ k. count_of k (take i t)) (sym ek) ∙ sym (numbered i lt) ∙ eo in
    let there : slice_get (places_of key t) o ≡ Some i = ap (slice_get (places_of key t)) (sym count) ∙ found_place key t i lt ek in
    take-next (places_from first key t) o n (ap (λ l. slice_get l o) (places-by first key t) ∙ get-map (λ i. first + i) (places_of key t) o i there ∙ ap (λ m. Some m) (sym en))

-- there is one for each smaller ordinal
pub number-there : (key : KeyValue) (t : List Record) (o count : ℕ) → AreNumbered t → count ≡ count_of key t → o < count → ((i : ℕ) → i < length t → (rec_at i t).key ≡ key → (rec_at i t).ordinal ≢ o) → ⊥
number-there key t o count numbered ec lt none =
    let some = get_some (places_of key t) o (let n = length-places_of key t in omega arith) in
    let is = some_place key t o some.0 some.1 in
    none some.0 is.within is.key (numbered some.0 is.within ∙ ap (λ k. count_of k (take some.0 t)) is.key ∙ is.before)

pub numbers-all : (key : KeyValue) (t : List Record) (first o count : ℕ) → count ≡ count_of key t → count ≤ o → take o (places_from first key t) ≡ places_from first key t
numbers-all key t first o count ec le = take_all o (places_from first key t) (let n = length-places first key t in omega arith)

-- ---- of all tables

places-append : (j : ℕ) (key : KeyValue) (xs ys : List Record) → places_from j key (xs ++ ys) ≡ places_from j key xs ++ places_from (j + length xs) key ys
places-append j key [] ys = ap (λ m. places_from m key ys) (let e : j ≡ j + 0 = omega arith in e)
places-append j key (rec ∷ xs) ys =
    let e : suc j + length xs ≡ j + suc (length xs) = omega arith in
    let rest = places-append (suc j) key xs ys ∙ ap (λ m. places_from (suc j) key xs ++ places_from m key ys) e in
    elim (same_key rec.key key) as (λ b. cond b (j ∷ places_from (suc j) key (xs ++ ys)) (places_from (suc j) key (xs ++ ys)) ≡ cond b (j ∷ places_from (suc j) key xs) (places_from (suc j) key xs) ++ places_from (j + suc (length xs)) key ys) [
      | true ↦ ap (λ l. j ∷ l) rest
      | false ↦ rest
    ]

drop-get : (kept : List (List Record)) (k : ℕ) (table : List Record) → slice_get kept k ≡ Some table → drop k kept ≡ table ∷ drop (k + 1) kept
drop-get [] k table h = absurd cc
drop-get (t ∷ kept) zero table h = let e : t ≡ table = cc in ap (λ x. x ∷ kept) e
drop-get (t ∷ kept) (suc k) table h = let n : suc (k + 1) ≡ suc k + 1 = omega arith in drop-get kept k table h ∙ ap (λ m. table ∷ drop m (t ∷ kept)) n

-- before the first table
pub tables-none : (key : KeyValue) (kept : List (List Record)) → places_from 0 key (records (drop 0 kept)) ≡ places_of key (records kept)
unfolding places_of
tables-none key kept = refl

-- one table more
pub tables-next : (key : KeyValue) (kept : List (List Record)) (k first more : ℕ) (table : List Record) (numbers now all : List ℕ) → slice_get kept k ≡ Some table → more ≡ first + length table → now ≡ numbers ++ places_from first key table
    → numbers ++ places_from first key (records (drop k kept)) ≡ all → now ++ places_from more key (records (drop (k + 1) kept)) ≡ all
tables-next key kept k first more table numbers now all there em en is =
    ap (λ l. l ++ places_from more key (records (drop (k + 1) kept))) en
    ∙ append_assoc numbers (places_from first key table) (places_from more key (records (drop (k + 1) kept)))
    ∙ ap (λ m. numbers ++ (places_from first key table ++ places_from m key (records (drop (k + 1) kept)))) em
    ∙ ap (λ l. numbers ++ l) (sym (ap (λ d. places_from first key (records d)) (drop-get kept k table there) ∙ places-append first key table (records (drop (k + 1) kept))))
    ∙ is

drop-past : (kept : List (List Record)) (k : ℕ) → length kept ≤ k → drop k kept ≡ []
drop-past [] zero h = refl
drop-past [] (suc k) h = refl
drop-past (t ∷ kept) zero h = absurd (omega arith)
drop-past (t ∷ kept) (suc k) h = drop-past kept k (omega arith)

-- behind the last
pub tables-all : (key : KeyValue) (kept : List (List Record)) (k first : ℕ) (numbers all : List ℕ) → length kept ≤ k → numbers ++ places_from first key (records (drop k kept)) ≡ all → numbers ≡ all
tables-all key kept k first numbers all le is = sym (append-nil numbers) ∙ sym (ap (λ d. numbers ++ places_from first key (records d)) (drop-past kept k le)) ∙ is
