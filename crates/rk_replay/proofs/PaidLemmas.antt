-- Which commands ran, and what these paid.
use Rattle.std.proofs.Common.{◌≡◌, ℕ, zero, suc, ◌+◌, ◌-◌, ◌≤◌, ◌<◌, ◌∙◌, List, [], ◌∷◌, ◌++◌, length, take, drop, get_or, true, false, Option, Some, None, is_some, slice_get, refl, sym, ap, subst, arith, inl, inr, add-one, drop-cons, length-append}
use Rattle.std.specs.Prelude.{sum_by, fold}
use Rattle.std.specs.List.{AllByRecursion as Each}
use Rattle.std.proofs.lemmas.Bool.{cases_lt}
use Rattle.std.proofs.lemmas.List.{get_or-append_right}
use Rattle.std.proofs.lemmas.List.Sums.{sum_by-append}
use Rattle.std.proofs.Math.ListN.{get_or-append}
use Rattle.rk_calls.specs.Keys.{KeyValue}
use Rattle.tr_record.specs.declared.records.Record.{Record}
use Rattle.tr_record.specs.declared.steps.Step.{Step}
use Rattle.tr_record.specs.Generations.{records}
use Rattle.tr_record.specs.Places.{places_of}
use Rattle.tr_record.specs.Rec.{AreNumbered, count_of, fresh_rec, no_key, rec_at}
use Rattle.tr_record.proofs.PlacesLemmas.{found_place, length-places_of}
use Rattle.tr_matching.specs.declared.cause.Cause.{Cause}
use Rattle.tr_matching.specs.declared.cause.Cause.TheVariants.{NoRecord, Differs}
use Rattle.tr_matching.specs.AnswerLaws.{other-answer, same-itself}
use Rattle.tr_matching.specs.Causes.{cause_among, first_difference, further}
use Rattle.tr_matching.proofs.EachLemmas.{each-map}
use Rattle.rk_traces.specs.Differences.{IsFirstDifference, AnswerAlike}
use Rattle.rk_traces.specs.Own.{own}
use Rattle.rk_traces.specs.Spoken.{step_at}
use Rattle.rk_replay.specs.Paying.{AllDiffer, HasOther, OneIsAlike}
use Rattle.rk_replay.specs.Ran.{cause_of, own_for}
use Rattle.rk_replay.proofs.KeyLemmas.{IsOf, places-in}

-- ---- of two records

pub first_difference-none : (n : ℕ) (xs ys : List Step) → AnswerAlike xs ys → first_difference n xs ys ≡ None
first_difference-none n [] ys h = refl
first_difference-none n (x ∷ xs) [] h = refl
first_difference-none n (x ∷ xs) (y ∷ ys) h =
    let e : x.answer ≡ y.answer = h 0 (omega arith, omega arith) in
    rw (e, same-itself)
    (first_difference-none (suc n) xs ys (λ i b. h (suc i) ((let lt : i < length xs = b.0 in omega arith), (let lt : i < length ys = b.1 in omega arith))))

first_difference-first : (n i : ℕ) (xs ys : List Step) → IsFirstDifference xs ys i → first_difference n xs ys ≡ Some (Differs (n + i) (step_at i xs).answer (step_at i ys).answer)
first_difference-first n i [] ys d = let lt : i < length (let none : List Step = [] in none) = d.here.0 in absurd (omega arith)
first_difference-first n i (x ∷ xs) [] d = let lt : i < length (let none : List Step = [] in none) = d.here.1 in absurd (omega arith)
first_difference-first n zero (x ∷ xs) (y ∷ ys) d = rw (other-answer x.answer y.answer d.differ) (ap (λ m. Some (Differs m x.answer y.answer)) (omega arith))
first_difference-first n (suc i) (x ∷ xs) (y ∷ ys) d =
    let e : x.answer ≡ y.answer = d.before 0 (omega arith) in
    let later : IsFirstDifference xs ys i = record {
      here = ((let lt : suc i < suc (length xs) = d.here.0 in omega arith), (let lt : suc i < suc (length ys) = d.here.1 in omega arith));
      differ = d.differ;
      before = λ k lt. d.before (suc k) (omega arith);
    } in
    rw (e, same-itself)
    (first_difference-first (suc n) i xs ys later ∙ ap (λ m. Some (Differs m (step_at i xs).answer (step_at i ys).answer)) (omega arith))

pub has-other : (was rec : Record) (i : ℕ) → IsFirstDifference was.steps rec.steps i → HasOther was rec
has-other was rec i d none = let clash : Some (Differs (1 + i) (step_at i was.steps).answer (step_at i rec.steps).answer) ≡ None = sym (first_difference-first 1 i was.steps rec.steps d) ∙ none in cc

-- ---- of all records of a key

further-some : (best later : Option Cause) → is_some best ≡ true → (later ≡ None → ⊥) → is_some (further best later) ≡ true
further-some None later b l = b
further-some (Some c) None b l = absurd (l refl)
further-some (Some c) (Some d) b l = refl

further-none : (best : Option Cause) → further best None ≡ None
further-none None = refl
further-none (Some c) = refl

module _ (old : List Record) (rec : Record) where
  abbrev among : Option Cause → List ℕ → Option Cause
  among best numbers = fold (λ best i. further best (first_difference 1 (rec_at i old).steps rec.steps)) best numbers

  among-some : (best : Option Cause) (numbers : List ℕ) → is_some best ≡ true → Each (λ i. HasOther (rec_at i old) rec) numbers → is_some (among best numbers) ≡ true
  among-some best [] b each = b
  among-some best (i ∷ numbers) b each =
      among-some (further best (first_difference 1 (rec_at i old).steps rec.steps)) numbers (further-some best (first_difference 1 (rec_at i old).steps rec.steps) b each.0) each.1

  among-none : (numbers : List ℕ) → among None numbers ≡ None
  among-none [] = refl
  among-none (i ∷ numbers) = among-none numbers

  among-alike : (best : Option Cause) (numbers : List ℕ) (k i : ℕ) → slice_get numbers k ≡ Some i → first_difference 1 (rec_at i old).steps rec.steps ≡ None → among best numbers ≡ None
  among-alike best [] k i there alike = absurd cc
  among-alike best (j ∷ numbers) zero i there alike =
      let is : j ≡ i = cc in
      ap (λ o. among (further best o) numbers) (ap (λ n. first_difference 1 (rec_at n old).steps rec.steps) is ∙ alike) ∙ ap (λ b. among b numbers) (further-none best) ∙ among-none numbers
  among-alike best (j ∷ numbers) (suc k) i there alike = among-alike (further best (first_difference 1 (rec_at j old).steps rec.steps)) numbers k i there alike

  pub ran-all : AllDiffer old rec → true ≡ is_some (cause_of old rec)
  unfolding cause_of cause_among
  ran-all differ = sym (among-some (Some NoRecord) (places_of rec.key old) refl (each-map (IsOf old rec.key) (λ i. HasOther (rec_at i old) rec) (λ i h. differ i h.0 h.1) (places_of rec.key old) (places-in old rec.key)))

  pub ran-one : OneIsAlike old rec → false ≡ is_some (cause_of old rec)
  unfolding cause_of cause_among
  ran-one o = ap is_some (sym (among-alike (Some NoRecord) (places_of rec.key old) (count_of rec.key (take o.0 old)) o.0 (found_place rec.key old o.0 o.1 o.2) o.3))

-- ---- of one table

get-within : {X : Type 0} (xs : List X) (k : ℕ) (x : X) → slice_get xs k ≡ Some x → k < length xs
get-within [] k x h = absurd cc
get-within (y ∷ xs) zero x h = omega arith
get-within (y ∷ xs) (suc k) x h = let l = get-within xs k x h in omega arith

-- the records of a key with smaller ordinals have other answers
abbrev pub LessDiffer : List Record → Record → ℕ → Type 0
LessDiffer t rec o = (i : ℕ) → i < length t → (rec_at i t).key ≡ rec.key → (rec_at i t).ordinal < o → HasOther (rec_at i t) rec

pub less-none : (t : List Record) (rec : Record) → LessDiffer t rec 0
less-none t rec i lt key less = absurd (omega arith)

there : (t : List Record) (key : KeyValue) (i o : ℕ) → AreNumbered t → i < length t → (rec_at i t).key ≡ key → (rec_at i t).ordinal ≡ o → slice_get (places_of key t) o ≡ Some i
there t key i o n lt ek eo =
    let count : count_of key (take i t) ≡ o = ap (λ k. count_of k (take i t)) (sym ek) ∙ sym (n i lt) ∙ eo in
    ap (slice_get (places_of key t)) (sym count) ∙ found_place key t i lt ek

pub less-more : (t : List Record) (rec : Record) (o i : ℕ) → AreNumbered t → LessDiffer t rec o → i < length t → (rec_at i t).key ≡ rec.key → (rec_at i t).ordinal ≡ o → HasOther (rec_at i t) rec → LessDiffer t rec (o + 1)
less-more t rec o i n less lt ek eo other j ltj ekj lessj = elim (cases_lt (rec_at j t).ordinal o) [
  | inl l ↦ less j ltj ekj l
  | inr ge ↦
      let eoj : (rec_at j t).ordinal ≡ o = omega arith in
      let both : Some i ≡ Some j = sym (there t rec.key i o n lt ek eo) ∙ there t rec.key j o n ltj ekj eoj in
      let is : i ≡ j = cc in
      subst (λ m. HasOther (rec_at m t) rec) is other
]

pub less-all : (t : List Record) (rec : Record) (o count : ℕ) → AreNumbered t → count ≡ count_of rec.key t → count ≤ o → LessDiffer t rec o → AllDiffer t rec
less-all t rec o count n ec le less i lt ek =
    let within = get-within (places_of rec.key t) (rec_at i t).ordinal i (there t rec.key i (rec_at i t).ordinal n lt ek refl) in
    less i lt ek (let l = length-places_of rec.key t in omega arith)

-- ---- table by table

drop-get : (kept : List (List Record)) (k : ℕ) (table : List Record) → slice_get kept k ≡ Some table → drop k kept ≡ table ∷ drop (k + 1) kept
drop-get [] k table h = absurd cc
drop-get (t ∷ kept) zero table h = let e : t ≡ table = cc in ap (λ x. x ∷ kept) e
drop-get (t ∷ kept) (suc k) table h = let n : suc (k + 1) ≡ suc k + 1 = omega arith in drop-get kept k table h ∙ ap (λ m. table ∷ drop m (t ∷ kept)) n

drop-past : (kept : List (List Record)) (k : ℕ) → length kept ≤ k → drop k kept ≡ []
drop-past [] zero h = refl
drop-past [] (suc k) h = refl
drop-past (t ∷ kept) zero h = absurd (omega arith)
drop-past (t ∷ kept) (suc k) h = drop-past kept k (omega arith)

-- what is so of the tables that are left is so of all
pub record StillOpen (kept : List (List Record)) (rec : Record) (k : ℕ) : Type 0 where
  pub differ : AllDiffer (records (drop k kept)) rec → AllDiffer (records kept) rec
  pub alike : OneIsAlike (records (drop k kept)) rec → OneIsAlike (records kept) rec

pub open-first : (kept : List (List Record)) (rec : Record) → StillOpen kept rec 0
open-first kept rec = record { differ = λ h. h; alike = λ h. h }

differ-append : (xs ys : List Record) (rec : Record) → AllDiffer xs rec → AllDiffer ys rec → AllDiffer (xs ++ ys) rec
differ-append xs ys rec a b i lt ek = elim (cases_lt i (length xs)) [
  | inl l ↦
      let is = get_or-append xs ys (fresh_rec no_key 0) i l in
      subst (λ r. HasOther r rec) (sym is) (a i l (ap (λ (r : Record). r.key) (sym is) ∙ ek))
  | inr ge ↦
      let is = get_or-append_right xs ys (length xs) i (fresh_rec no_key 0) refl ge in
      subst (λ r. HasOther r rec) (sym is) (b (i - length xs) (let n = length-append xs ys in omega arith) (ap (λ (r : Record). r.key) (sym is) ∙ ek))
]

alike-here : (xs ys : List Record) (rec : Record) → OneIsAlike xs rec → OneIsAlike (xs ++ ys) rec
alike-here xs ys rec o =
    let is = get_or-append xs ys (fresh_rec no_key 0) o.0 o.1 in
    (o.0, (let n = length-append xs ys in let l : o.0 < length xs = o.1 in omega arith), ap (λ (r : Record). r.key) is ∙ o.2, ap (λ (r : Record). first_difference 1 r.steps rec.steps) is ∙ o.3)

alike-later : (xs ys : List Record) (rec : Record) → OneIsAlike ys rec → OneIsAlike (xs ++ ys) rec
alike-later xs ys rec o =
    let back : (length xs + o.0) - length xs ≡ o.0 = omega arith in
    let is = get_or-append_right xs ys (length xs) (length xs + o.0) (fresh_rec no_key 0) refl (omega arith) ∙ ap (λ n. rec_at n ys) back in
    (length xs + o.0, (let n = length-append xs ys in let l : o.0 < length ys = o.1 in omega arith), ap (λ (r : Record). r.key) is ∙ o.2, ap (λ (r : Record). first_difference 1 r.steps rec.steps) is ∙ o.3)

module _ (kept : List (List Record)) (rec : Record) (k : ℕ) (table : List Record) (at : slice_get kept k ≡ Some table) (s : StillOpen kept rec k) where
  is : records (drop k kept) ≡ table ++ records (drop (k + 1) kept)
  is = ap records (drop-get kept k table at)

  pub open-next : AllDiffer table rec → StillOpen kept rec (k + 1)
  open-next own_differ = record {
    differ = λ h. s.differ (subst (λ l. AllDiffer l rec) (sym is) (differ-append table (records (drop (k + 1) kept)) rec own_differ h));
    alike = λ h. s.alike (subst (λ l. OneIsAlike l rec) (sym is) (alike-later table (records (drop (k + 1) kept)) rec h));
  }

  pub open-alike : OneIsAlike table rec → OneIsAlike (records kept) rec
  open-alike o = s.alike (subst (λ l. OneIsAlike l rec) (sym is) (alike-here table (records (drop (k + 1) kept)) rec o))

pub open-last : (kept : List (List Record)) (rec : Record) (k : ℕ) → length kept ≤ k → StillOpen kept rec k → AllDiffer (records kept) rec
open-last kept rec k le s = s.differ (subst (λ l. AllDiffer (records l) rec) (sym (drop-past kept k le)) (λ i lt. absurd (omega arith)))

-- how many records there are
pub count-next : (kept : List (List Record)) (k all more n : ℕ) (table : List Record) → slice_get kept k ≡ Some table → more ≡ all + length table → all + length (records (drop k kept)) ≡ n → more + length (records (drop (k + 1) kept)) ≡ n
count-next kept k all more n table at em e =
    let long : length (records (drop k kept)) ≡ length table + length (records (drop (k + 1) kept)) = ap (λ l. length (records l)) (drop-get kept k table at) ∙ length-append table (records (drop (k + 1) kept)) in
    omega arith

pub count-all : (kept : List (List Record)) (k all n : ℕ) → length kept ≤ k → all + length (records (drop k kept)) ≡ n → all ≡ n
count-all kept k all n le e = let none : length (records (drop k kept)) ≡ 0 = ap (λ l. length (records l)) (drop-past kept k le) in omega arith

-- ---- what it paid, by whether it ran

pub own-ran : (rec : Record) (o : Option Cause) → is_some o ≡ true → own_for rec o ≡ own rec
own-ran rec None e = absurd (let f : false ≡ true = e in cc)
own-ran rec (Some cause) e = refl

pub own-kept : (rec : Record) (o : Option Cause) → is_some o ≡ false → own_for rec o ≡ 0
own-kept rec None e = refl
own-kept rec (Some cause) e = absurd (let f : true ≡ false = e in cc)

-- of those that are left, the first paid no more than all together
pub first-paid : (f : Record → ℕ) (table : List Record) (i total all : ℕ) (rec : Record) → i < length table → rec ≡ get_or table i rec → total + sum_by f (drop i table) ≡ all → total + f rec + sum_by f (drop (i + 1) table) ≡ all
first-paid f table i total all rec h is e =
    let split : drop i table ≡ rec ∷ drop (i + 1) table = rw (add-one, drop-cons table i rec h) (ap (λ r. r ∷ drop (suc i) table) (sym is)) in
    let sums : sum_by f (drop i table) ≡ 0 + f rec + sum_by f (drop (i + 1) table) = ap (sum_by f) split ∙ sum_by-append f (rec ∷ []) (drop (i + 1) table) in
    omega arith
