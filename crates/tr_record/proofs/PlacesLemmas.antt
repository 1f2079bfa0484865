-- The numbers of the records of a key.
use Rattle.std.proofs.Common.{◌≡◌, ◌≢◌, ◌∙◌, ap, sym, refl, subst, ℕ, zero, suc, ◌+◌, ◌<◌, Bool, true, false, cond, List, [], ◌∷◌, ◌++◌, length, take, get_or, Option, Some, None, IfSome, IfNone, unwrap_or, slice_get, arith, inl, inr, length-append}
use Rattle.std.specs.Map.{lookup, set_value}
use Rattle.std.proofs.lemmas.List.Sums.{sum_by-cons}
use Rattle.std.proofs.lemmas.List.{take-append-le, take_at}
use Rattle.std.proofs.Math.Seq.{get_or-append_seam}
use Rattle.std.proofs.lemmas.Bool.{cases_lt}
use Rattle.std.proofs.Math.ListN.{set, length-set, get_or-append}
use Rattle.std.proofs.lemmas.Map.Steps.{set_value_same}
use Rattle.rk_calls.specs.Keys.{KeyValue, same_key}
use Rattle.tr_record.specs.declared.records.Record.{Record}
use Rattle.tr_record.specs.Rec.{count_of, fresh_rec, no_key, rec_at, AreNumbered}
use Rattle.tr_record.specs.Places.{places_at, places_from, places_of, Adds, Stays, IsIndexed}
use Rattle.tr_record.proofs.KeyLemmas.{same_key-Decides}

-- a number that was found and is written back changes nothing
pub stays_written : (old new : List (KeyValue × List ℕ)) (key : KeyValue) (v w : List ℕ) → new ≡ set_value (same_key key) old w → w ≡ v → Some v ≡ lookup (same_key key) old → Stays old new
stays_written old new key v w e same found q =
    ap (λ (l : List (KeyValue × List ℕ)). places_at l q) (e ∙ ap (set_value (same_key key) old) same ∙ set_value_same (same_key key) old v (sym found))

-- a key that is new
pub adds_new : (old new : List (KeyValue × List ℕ)) (copy key q : KeyValue) (place : ℕ) (w : List ℕ)
    → lookup (same_key q) new ≡ cond (same_key copy q) (Some w) (lookup (same_key q) old)
    → copy ≡ key → w ≡ place ∷ [] → None ≡ lookup (same_key key) old
    → places_at new q ≡ cond (same_key key q) (places_at old key ++ place ∷ []) (places_at old q)
adds_new old new copy key q place w e same one none =
    let first : places_at old key ≡ [] = ap (λ (o : Option (List ℕ)). unwrap_or o []) (sym none) in
    let last : places_at old key ++ place ∷ [] ≡ w = ap (λ (l : List ℕ). l ++ place ∷ []) first ∙ sym one in
    ap (λ (o : Option (List ℕ)). unwrap_or o []) (e ∙ ap (λ (k : KeyValue). cond (same_key k q) (Some w) (lookup (same_key q) old)) same)
    ∙ (elim (same_key key q) as (λ (b : Bool). unwrap_or (cond b (Some w) (lookup (same_key q) old)) [] ≡ cond b w (places_at old q)) [ true ↦ refl | false ↦ refl ])
    ∙ ap (λ (l : List ℕ). cond (same_key key q) l (places_at old q)) (sym last)

-- ---- the numbers of a key, by the records

abbrev counted : KeyValue → Record → ℕ
counted q rec = cond (same_key rec.key q) 1 0

-- one record more in front
count-cons : (q : KeyValue) (rec : Record) (t : List Record) → count_of q (rec ∷ t) ≡ counted q rec + count_of q t
count-cons q rec t = sum_by-cons (counted q) rec t

length-places_from : (i : ℕ) (q : KeyValue) (t : List Record) → length (places_from i q t) ≡ count_of q t
length-places_from i q [] = refl
length-places_from i q (rec ∷ t) =
    let rest = length-places_from (suc i) q t in
    (elim (same_key rec.key q) as (λ b. length (cond b (i ∷ places_from (suc i) q t) (places_from (suc i) q t)) ≡ cond b 1 0 + count_of q t) [ true ↦ omega arith | false ↦ omega arith ])
    ∙ sym (count-cons q rec t)

pub length-places_of : (q : KeyValue) (t : List Record) → length (places_of q t) ≡ count_of q t
unfolding places_of
length-places_of q t = length-places_from 0 q t

push-places_from : (i : ℕ) (q : KeyValue) (t : List Record) (rec : Record) → places_from i q (t ++ rec ∷ []) ≡ cond (same_key rec.key q) (places_from i q t ++ (i + length t) ∷ []) (places_from i q t)
push-places_from i q [] rec = ap (λ n. cond (same_key rec.key q) (n ∷ []) []) (let e : i ≡ i + 0 = omega arith in e)
push-places_from i q (r ∷ t) rec =
    let n : suc i + length t ≡ i + suc (length t) = omega arith in
    let rest = push-places_from (suc i) q t rec ∙ ap (λ n. cond (same_key rec.key q) (places_from (suc i) q t ++ n ∷ []) (places_from (suc i) q t)) n in
    elim (same_key r.key q) as (λ b. cond b (i ∷ places_from (suc i) q (t ++ rec ∷ [])) (places_from (suc i) q (t ++ rec ∷ [])) ≡ cond (same_key rec.key q) (cond b (i ∷ places_from (suc i) q t) (places_from (suc i) q t) ++ (i + suc (length t)) ∷ []) (cond b (i ∷ places_from (suc i) q t) (places_from (suc i) q t))) [
      | true ↦ ap (λ (l : List ℕ). i ∷ l) rest ∙ (elim (same_key rec.key q) as (λ c. i ∷ cond c (places_from (suc i) q t ++ (i + suc (length t)) ∷ []) (places_from (suc i) q t) ≡ cond c ((i ∷ places_from (suc i) q t) ++ (i + suc (length t)) ∷ []) (i ∷ places_from (suc i) q t)) [ true ↦ refl | false ↦ refl ])
      | false ↦ rest
    ]

pub push-places_of : (q : KeyValue) (t : List Record) (rec : Record) → places_of q (t ++ rec ∷ []) ≡ cond (same_key rec.key q) (places_of q t ++ length t ∷ []) (places_of q t)
unfolding places_of
push-places_of q t rec = push-places_from 0 q t rec ∙ ap (λ n. cond (same_key rec.key q) (places_from 0 q t ++ n ∷ []) (places_from 0 q t)) (let e : 0 + length t ≡ length t = omega arith in e)

-- what stands among the numbers of a key
pub record IsThere (q : KeyValue) (t : List Record) (o k : ℕ) : Type 0 where
  pub within : k < length t
  pub key : (rec_at k t).key ≡ q
  pub before : count_of q (take k t) ≡ o

there_later : (q : KeyValue) (rec : Record) (t : List Record) (o k n : ℕ) → n ≡ counted q rec + o → IsThere q t o k → IsThere q (rec ∷ t) n (suc k)
there_later q rec t o k n e h = record {
  within = (let lt = h.within in omega arith);
  key = h.key;
  before = count-cons q rec (take k t) ∙ ap (λ m. counted q rec + m) h.before ∙ sym e;
}

-- a number found later is found
abbrev Found : ℕ → KeyValue → List Record → ℕ → ℕ → Type 0
Found j q t o i = (k : ℕ) × (i ≡ j + k) × IsThere q t o k

found_later : (j : ℕ) (q : KeyValue) (rec : Record) (t : List Record) (o n i : ℕ) → n ≡ counted q rec + o → Found (suc j) q t o i → Found j q (rec ∷ t) n i
found_later j q rec t o n i e r = let m : i ≡ suc j + r.0 = r.1 in (suc r.0, omega arith, there_later q rec t o r.0 n e r.2)

some_at : (j : ℕ) (q : KeyValue) (rec : Record) (t : List Record) (o i : ℕ) → same_key rec.key q ≡ true → ((p : ℕ) → slice_get (places_from (suc j) q t) p ≡ Some i → Found (suc j) q t p i)
    → slice_get (j ∷ places_from (suc j) q t) o ≡ Some i → Found j q (rec ∷ t) o i
some_at j q rec t zero i e later g =
    let m : j ≡ i = cc in
    (0, omega arith, record { within = omega arith; key = (same_key-Decides rec.key q).0 e; before = refl })
some_at j q rec t (suc o) i e later g = found_later j q rec t o (suc o) i (let z : suc o ≡ 1 + o = omega arith in z ∙ ap (λ b. cond b 1 0 + o) (sym e)) (later o g)

some_from : (j : ℕ) (q : KeyValue) (t : List Record) (o i : ℕ) → slice_get (places_from j q t) o ≡ Some i → Found j q t o i
some_from j q [] o i h = absurd cc
some_from j q (rec ∷ t) o i h =
    (elim (same_key rec.key q) as (λ b. same_key rec.key q ≡ b → slice_get (cond b (j ∷ places_from (suc j) q t) (places_from (suc j) q t)) o ≡ Some i → Found j q (rec ∷ t) o i) [
      | true ↦ λ e g. some_at j q rec t o i e (λ p. some_from (suc j) q t p i) g
      | false ↦ λ e g. found_later j q rec t o o i (let z : o ≡ 0 + o = omega arith in z ∙ ap (λ b. cond b 1 0 + o) (sym e)) (some_from (suc j) q t o i g)
    ]) refl h

pub some_place : (q : KeyValue) (t : List Record) (o i : ℕ) → slice_get (places_of q t) o ≡ Some i → IsThere q t o i
unfolding places_of
some_place q t o i h =
    let r = some_from 0 q t o i h in
    subst (λ k. IsThere q t o k) (let e : r.0 ≡ i = (let m = r.1 in omega arith) in e) r.2

found_from : (j : ℕ) (q : KeyValue) (t : List Record) (i : ℕ) → i < length t → (rec_at i t).key ≡ q → slice_get (places_from j q t) (count_of q (take i t)) ≡ Some (j + i)
found_from j q [] i lt e = absurd (omega arith)
found_from j q (rec ∷ t) zero lt e = ap (λ b. slice_get (cond b (j ∷ places_from (suc j) q t) (places_from (suc j) q t)) 0) ((same_key-Decides rec.key q).1 e) ∙ ap Some (let z : j ≡ j + 0 = omega arith in z)
found_from j q (rec ∷ t) (suc i) lt e =
    let n = count_of q (take i t) in
    let rest = found_from (suc j) q t i (omega arith) e ∙ ap Some (let z : suc j + i ≡ j + suc i = omega arith in z) in
    ap (slice_get (places_from j q (rec ∷ t))) (count-cons q rec (take i t))
    ∙ (elim (same_key rec.key q) as (λ b. slice_get (cond b (j ∷ places_from (suc j) q t) (places_from (suc j) q t)) (cond b 1 0 + n) ≡ Some (j + suc i)) [
      | true ↦ ap (slice_get (j ∷ places_from (suc j) q t)) (let z : 1 + n ≡ suc n = omega arith in z) ∙ rest
      | false ↦ ap (slice_get (places_from (suc j) q t)) (let z : 0 + n ≡ n = omega arith in z) ∙ rest
    ])

pub found_place : (q : KeyValue) (t : List Record) (i : ℕ) → i < length t → (rec_at i t).key ≡ q → slice_get (places_of q t) (count_of q (take i t)) ≡ Some i
unfolding places_of
found_place q t i lt e = found_from 0 q t i lt e ∙ ap Some (let z : 0 + i ≡ i = omega arith in z)

-- ---- one record more

pub numbered_push : (t : List Record) (rec : Record) → AreNumbered t → rec.ordinal ≡ count_of rec.key t → AreNumbered (t ++ rec ∷ [])
numbered_push t rec h e i lt =
    elim (cases_lt i (length t)) [
      | inl within ↦
          let at : rec_at i (t ++ rec ∷ []) ≡ rec_at i t = get_or-append t (rec ∷ []) (fresh_rec no_key 0) i within in
          let before : take i (t ++ rec ∷ []) ≡ take i t = take-append-le i t (rec ∷ []) (omega arith) in
          ap (λ (r : Record). r.ordinal) at ∙ h i within ∙ ap (λ (r : Record). count_of r.key (take i t)) (sym at) ∙ ap (count_of (rec_at i (t ++ rec ∷ [])).key) (sym before)
      | inr beyond ↦
          let last : i ≡ length t = (let n = length-append t (rec ∷ []) in omega arith) in
          let at : rec_at i (t ++ rec ∷ []) ≡ rec = ap (λ (n : ℕ). rec_at n (t ++ rec ∷ [])) last ∙ get_or-append_seam t rec [] (fresh_rec no_key 0) in
          let before : take i (t ++ rec ∷ []) ≡ t = ap (λ (n : ℕ). take n (t ++ rec ∷ [])) last ∙ take_at t (rec ∷ []) (length t) refl in
          ap (λ (r : Record). r.ordinal) at ∙ e ∙ ap (λ (r : Record). count_of r.key t) (sym at) ∙ ap (count_of (rec_at i (t ++ rec ∷ [])).key) (sym before)
    ]

pub indexed_push : (old new : List (KeyValue × List ℕ)) (t : List Record) (rec : Record) → IsIndexed old t → Adds old new rec.key (length t) → rec.ordinal ≡ count_of rec.key t → IsIndexed new (t ++ rec ∷ [])
indexed_push old new t rec h adds e = record {
  numbered = numbered_push t rec h.numbered e;
  places = λ q.
      adds q ∙ ap (λ (l : List ℕ). cond (same_key rec.key q) (l ++ length t ∷ []) (places_at old q)) (h.places rec.key)
      ∙ ap (λ (l : List ℕ). cond (same_key rec.key q) (places_of rec.key t ++ length t ∷ []) l) (h.places q)
      ∙ by q (same_key rec.key q) refl
      ∙ sym (push-places_of q t rec);
}
  where
    by : (q : KeyValue) (b : Bool) → same_key rec.key q ≡ b → cond b (places_of rec.key t ++ length t ∷ []) (places_of q t) ≡ cond b (places_of q t ++ length t ∷ []) (places_of q t)
    by q true f = ap (λ (k : KeyValue). places_of k t ++ length t ∷ []) ((same_key-Decides rec.key q).0 f)
    by q false f = refl

pub indexed_stays : (old new : List (KeyValue × List ℕ)) (t : List Record) → IsIndexed old t → Stays old new → IsIndexed new t
indexed_stays old new t h stays = record { numbered = h.numbered; places = λ q. stays q ∙ h.places q }

-- ---- one record changed, but for its key and ordinal

set-key : (t : List Record) (i k : ℕ) (rec : Record) → rec.key ≡ (rec_at i t).key → (rec_at k (set t i rec)).key ≡ (rec_at k t).key
set-key [] i k rec e = refl
set-key (r ∷ t) zero zero rec e = e
set-key (r ∷ t) zero (suc k) rec e = refl
set-key (r ∷ t) (suc i) zero rec e = refl
set-key (r ∷ t) (suc i) (suc k) rec e = set-key t i k rec e

set-ordinal : (t : List Record) (i k : ℕ) (rec : Record) → rec.ordinal ≡ (rec_at i t).ordinal → (rec_at k (set t i rec)).ordinal ≡ (rec_at k t).ordinal
set-ordinal [] i k rec e = refl
set-ordinal (r ∷ t) zero zero rec e = e
set-ordinal (r ∷ t) zero (suc k) rec e = refl
set-ordinal (r ∷ t) (suc i) zero rec e = refl
set-ordinal (r ∷ t) (suc i) (suc k) rec e = set-ordinal t i k rec e

set-places_from : (j : ℕ) (q : KeyValue) (t : List Record) (i : ℕ) (rec : Record) → rec.key ≡ (rec_at i t).key → places_from j q (set t i rec) ≡ places_from j q t
set-places_from j q [] i rec e = refl
set-places_from j q (r ∷ t) zero rec e = ap (λ (k : KeyValue). cond (same_key k q) (j ∷ places_from (suc j) q t) (places_from (suc j) q t)) e
set-places_from j q (r ∷ t) (suc i) rec e = ap (λ (l : List ℕ). cond (same_key r.key q) (j ∷ l) l) (set-places_from (suc j) q t i rec e)

set-places_of : (q : KeyValue) (t : List Record) (i : ℕ) (rec : Record) → rec.key ≡ (rec_at i t).key → places_of q (set t i rec) ≡ places_of q t
unfolding places_of
set-places_of q t i rec e = set-places_from 0 q t i rec e

set-count : (q : KeyValue) (t : List Record) (i k : ℕ) (rec : Record) → rec.key ≡ (rec_at i t).key → count_of q (take k (set t i rec)) ≡ count_of q (take k t)
set-count q [] i k rec e = refl
set-count q (r ∷ t) i zero rec e = refl
set-count q (r ∷ t) zero (suc k) rec e =
    count-cons q rec (take k t) ∙ ap (λ (key : KeyValue). cond (same_key key q) 1 0 + count_of q (take k t)) e ∙ sym (count-cons q r (take k t))
set-count q (r ∷ t) (suc i) (suc k) rec e =
    count-cons q r (take k (set t i rec)) ∙ ap (λ n. counted q r + n) (set-count q t i k rec e) ∙ sym (count-cons q r (take k t))

pub indexed_set : (entries : List (KeyValue × List ℕ)) (t : List Record) (i : ℕ) (rec : Record) → IsIndexed entries t → rec.key ≡ (rec_at i t).key → rec.ordinal ≡ (rec_at i t).ordinal → IsIndexed entries (set t i rec)
indexed_set entries t i rec h same e = record {
  numbered = λ k lt.
      set-ordinal t i k rec e ∙ h.numbered k (let n = length-set t i rec in omega arith)
      ∙ sym (set-count (rec_at k t).key t i k rec same)
      ∙ ap (λ (q : KeyValue). count_of q (take k (set t i rec))) (sym (set-key t i k rec same));
  places = λ q. h.places q ∙ sym (set-places_of q t i rec same);
}

pub indexed_none : (entries : List (KeyValue × List ℕ)) → entries ≡ [] → IsIndexed entries []
unfolding places_of
indexed_none entries e = record { numbered = λ i lt. absurd (omega arith); places = λ q. ap (λ (l : List (KeyValue × List ℕ)). places_at l q) e }

-- ---- the record of a key and an ordinal

pub place_some : (r : Option ℕ) (q : KeyValue) (t : List Record) (o : ℕ) → AreNumbered t → r ≡ slice_get (places_of q t) o → IfSome r (λ i. (i < length t) × ((rec_at i t).key ≡ q) × ((rec_at i t).ordinal ≡ o))
place_some None q t o h e = tt
place_some (Some i) q t o h e =
    let there = some_place q t o i (sym e) in
    (there.within, there.key, h i there.within ∙ ap (λ (k : KeyValue). count_of k (take i t)) there.key ∙ there.before)

pub place_none : (r : Option ℕ) (q : KeyValue) (t : List Record) (o : ℕ) → AreNumbered t → r ≡ slice_get (places_of q t) o → IfNone r ((i : ℕ) → i < length t → (rec_at i t).key ≡ q → (rec_at i t).ordinal ≢ o)
place_none (Some i) q t o h e = tt
place_none None q t o h e = λ i lt key ordinal.
    let before : count_of q (take i t) ≡ o = ap (λ (k : KeyValue). count_of k (take i t)) (sym key) ∙ sym (h i lt) ∙ ordinal in
    let found : slice_get (places_of q t) o ≡ Some i = ap (slice_get (places_of q t)) (sym before) ∙ found_place q t i lt key in
    cc

-- and no record before it has them
pub place_first : (r : Option ℕ) (q : KeyValue) (t : List Record) (o : ℕ) → AreNumbered t → r ≡ slice_get (places_of q t) o → IfSome r (λ i. (k : ℕ) → k < i → (rec_at k t).key ≡ q → (rec_at k t).ordinal ≢ o)
place_first None q t o h e = tt
place_first (Some i) q t o h e = λ k lt key ordinal.
    let there = some_place q t o i (sym e) in
    let inside : k < length t = (let w = there.within in omega arith) in
    let before : count_of q (take k t) ≡ o = ap (λ (k' : KeyValue). count_of k' (take k t)) (sym key) ∙ sym (h k inside) ∙ ordinal in
    let found : slice_get (places_of q t) o ≡ Some k = ap (slice_get (places_of q t)) (sym before) ∙ found_place q t k inside key in
    let same : k ≡ i = cc in
    absurd (omega arith)

pub same_at : (t : List Record) (i : ℕ) (d e : Record) → i < length t → get_or t i d ≡ get_or t i e
same_at [] i d e lt = absurd (omega arith)
same_at (r ∷ t) zero d e lt = refl
same_at (r ∷ t) (suc i) d e lt = same_at t i d e (omega arith)

-- a record behind a number is changed, but for its key and ordinal
pub indexed_at : (entries : List (KeyValue × List ℕ)) (t : List Record) (i : ℕ) (old rec : Record) → IsIndexed entries t → i < length t → old ≡ get_or t i old → rec.key ≡ old.key → rec.ordinal ≡ old.ordinal → IsIndexed entries (set t i rec)
indexed_at entries t i old rec h lt e key ordinal =
    let at : old ≡ rec_at i t = e ∙ same_at t i old (fresh_rec no_key 0) lt in
    indexed_set entries t i rec h (key ∙ ap (λ (r : Record). r.key) at) (ordinal ∙ ap (λ (r : Record). r.ordinal) at)
