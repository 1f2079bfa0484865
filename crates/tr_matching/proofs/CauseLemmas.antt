-- Laws of causes.
use Rattle.std.proofs.Common.{◌≡◌, ℕ, zero, suc, ◌+◌, ◌≤◌, ◌<◌, ◌⊎◌, Bool, true, false, if◌then◌else◌, ltb, List, [], ◌∷◌, ◌++◌, length, take, drop, filter, slice_get, Option, Some, None, refl, sym, ◌∙◌, ap, subst, arith, inl, inr, append-nil}
use Rattle.std.specs.Prelude.{fold}
use Rattle.std.specs.List.{AllByRecursion as Each}
use Rattle.std.proofs.lemmas.Bool.{cond-true, cond-false, lt-ltb, le-ltb, cases_Bool, false_from_ne_true}
use Rattle.rk_calls.specs.declared.call.Call.{Call}
use Rattle.rk_calls.specs.declared.answer.Answer.{Answer}
use Rattle.rk_calls.specs.declared.drive.Spoke.TheVariants.{Call as Calls}
use Rattle.tr_record.specs.declared.records.Record.{Record}
use Rattle.tr_record.specs.declared.steps.Step.{Step}
use Rattle.tr_record.specs.Rec.{rec_at}
use Rattle.tr_matching.specs.declared.cause.Cause.{Cause}
use Rattle.tr_matching.specs.declared.cause.Cause.TheVariants.{NoRecord, Differs}
use Rattle.tr_matching.specs.Answers.{same_answer}
use Rattle.tr_matching.specs.AnswerLaws.{same-itself, other-answer}
use Rattle.tr_matching.proofs.EachLemmas.{each-map, each-both, each-from_filter}
use Rattle.tr_matching.specs.Left.{begins, is_answered, next_at, BeginsWith, IsParted, IsMatching}
use Rattle.tr_matching.specs.Matching.{AllSay}
use Rattle.tr_matching.specs.Steps.{answers_of, step, step_at, IsFirstDifference}
use Rattle.tr_matching.proofs.LeftLemmas.{of-left, last-answer, differs-here, differs-still}
use Rattle.tr_matching.specs.Causes.{first_difference, further_of, further, cause_among}

-- ---- the first difference

pub first_difference-prefix : (n : ℕ) (xs ys : List Step) → first_difference n (xs ++ ys) xs ≡ None
first_difference-prefix n [] [] = refl
first_difference-prefix n [] (y ∷ ys) = refl
first_difference-prefix n (x ∷ xs) ys = rw same-itself (first_difference-prefix (suc n) xs ys)

if-stable : (b : Bool) (x x' y : Option Cause) (c : Cause) → (x ≡ Some c → x' ≡ Some c) → (if b then x else y) ≡ Some c → (if b then x' else y) ≡ Some c
if-stable true x x' y c h e = h e
if-stable false x x' y c h e = e

-- a step more takes no difference away
first_difference-stable : (n : ℕ) (xs ys zs : List Step) (c : Cause) → first_difference n xs ys ≡ Some c → first_difference n xs (ys ++ zs) ≡ Some c
first_difference-stable n [] ys zs c e = cc
first_difference-stable n (x ∷ xs) [] zs c e = cc
first_difference-stable n (x ∷ xs) (y ∷ ys) zs c e =
    if-stable (same_answer x.answer y.answer) (first_difference (suc n) xs ys) (first_difference (suc n) xs (ys ++ zs)) (Some (Differs n x.answer y.answer)) c
    (first_difference-stable (suc n) xs ys zs c) e

first_difference-first : (n i : ℕ) (xs ys : List Step) → IsFirstDifference xs ys i → first_difference n xs ys ≡ Some (Differs (n + i) (step_at i xs).answer (step_at i ys).answer)
first_difference-first n i [] ys d = let lt : i < length (let none : List Step = [] in none) = d.here.0 in absurd (omega arith)
first_difference-first n i (x ∷ xs) [] d = let lt : i < length (let none : List Step = [] in none) = d.here.1 in absurd (omega arith)
first_difference-first n zero (x ∷ xs) (y ∷ ys) d = rw (other-answer x.answer y.answer d.differ) (ap (λ m. Some (Differs m x.answer y.answer)) (omega arith))
first_difference-first n (suc i) (x ∷ xs) (y ∷ ys) d =
    let e : x.answer ≡ y.answer = d.before 0 (omega arith) in
    let later : IsFirstDifference xs ys i = record {
      here = ((let lt : suc i < suc (length xs) = d.here.0 in omega arith), (let lt : suc i < suc (length ys) = d.here.1 in omega arith));
      differ = d.differ;
      before = λ k lt. d.before (suc k) (omega arith);
    } in
    rw (e, same-itself)
    (first_difference-first (suc n) i xs ys later ∙ ap (λ m. Some (Differs m (step_at i xs).answer (step_at i ys).answer)) (omega arith))

-- ---- the one that goes furthest

-- it goes no further than to this step
abbrev IsUpTo : ℕ → Cause → Type 0
IsUpTo n NoRecord = Unit {0}
IsUpTo n (Differs m recorded seen) = m ≤ n

further-beyond : (n : ℕ) (c : Cause) (r s : Answer) → IsUpTo n c → further_of c (Differs (suc n) r s) ≡ Differs (suc n) r s
further-beyond n NoRecord r s h = refl
further-beyond n (Differs m r' s') r s h = cond-true (ltb m (suc n)) (Differs (suc n) r s) (Differs m r' s') (lt-ltb m (suc n) (omega arith))

further-within : (n : ℕ) (r s : Answer) (d : Cause) → IsUpTo (suc n) d → further_of (Differs (suc n) r s) d ≡ Differs (suc n) r s
further-within n r s NoRecord h = refl
further-within n r s (Differs m r' s') h = cond-false (ltb (suc n) m) (Differs m r' s') (Differs (suc n) r s) (le-ltb (suc n) m h)

further-up_to : (n : ℕ) (c d : Cause) → IsUpTo n c → IsUpTo n d → IsUpTo n (further_of c d)
further-up_to n NoRecord d h k = k
further-up_to n (Differs m r s) NoRecord h k = h
further-up_to n (Differs m r s) (Differs m' r' s') h k =
    elim (cases_Bool (ltb m m')) [
      | inl t ↦ subst (IsUpTo n) (sym (cond-true (ltb m m') (Differs m' r' s') (Differs m r s) t)) k
      | inr f ↦ subst (IsUpTo n) (sym (cond-false (ltb m m') (Differs m' r' s') (Differs m r s) f)) h
    ]

module _ (old : List Record) (steps : List Step) where
  abbrev differ : ℕ → Option Cause
  differ i = first_difference 1 (rec_at i old).steps steps

  abbrev furthest : Option Cause → List ℕ → Option Cause
  furthest best numbers = fold (λ best i. further best (differ i)) best numbers

  -- what is known of a record, by a test: it differs first at the last step, or earlier
  abbrev IsLate : (t : ℕ → Bool) → ℕ → Answer → ℕ → Type 0
  IsLate t n a i = (t i ≡ true → differ i ≡ Some (Differs (suc n) (step_at n (rec_at i old).steps).answer a)) × (t i ≡ false → (c : Cause) × (differ i ≡ Some c) × IsUpTo n c)

  stays : (t : ℕ → Bool) (n : ℕ) (a r : Answer) (numbers : List ℕ) → Each (IsLate t n a) numbers → furthest (Some (Differs (suc n) r a)) numbers ≡ Some (Differs (suc n) r a)
  stays t n a r [] h = refl
  stays t n a r (i ∷ numbers) h =
      let next : further (Some (Differs (suc n) r a)) (differ i) ≡ Some (Differs (suc n) r a) =
      elim (cases_Bool (t i)) [
        | inl e ↦ ap (further (Some (Differs (suc n) r a))) (h.0.0 e) ∙ ap (λ c. Some c) (further-within n r a (Differs (suc n) (step_at n (rec_at i old).steps).answer a) (omega arith))
        | inr e ↦
            let d = h.0.1 e in
            ap (further (Some (Differs (suc n) r a))) d.1 ∙ ap (λ c. Some c) (further-within n r a d.0 (up_to_more n d.0 d.2))
      ] in
      ap (λ b. furthest b numbers) next ∙ stays t n a r numbers h.1
    where
      up_to_more : (n : ℕ) (c : Cause) → IsUpTo n c → IsUpTo (suc n) c
      up_to_more n NoRecord h = tt
      up_to_more n (Differs m r s) h = omega arith

  finds : (t : ℕ → Bool) (n : ℕ) (a : Answer) (best : Cause) (numbers : List ℕ) (i : ℕ) (rest : List ℕ) → IsUpTo n best → Each (IsLate t n a) numbers → filter t numbers ≡ i ∷ rest → furthest (Some best) numbers ≡ Some (Differs (suc n) (step_at n (rec_at i old).steps).answer a)
  finds t n a best [] i rest u h e = absurd cc
  finds t n a best (j ∷ numbers) i rest u h e =
      elim (cases_Bool (t j)) [
        | inl y ↦
            let same : j ∷ filter t numbers ≡ i ∷ rest = sym (cond-true (t j) (j ∷ filter t numbers) (filter t numbers) y) ∙ e in
            let ej : j ≡ i = cc in
            let next : further (Some best) (differ j) ≡ Some (Differs (suc n) (step_at n (rec_at j old).steps).answer a) =
            ap (further (Some best)) (h.0.0 y) ∙ ap (λ c. Some c) (further-beyond n best (step_at n (rec_at j old).steps).answer a u) in
            ap (λ b. furthest b numbers) next ∙ stays t n a (step_at n (rec_at j old).steps).answer numbers h.1
            ∙ ap (λ k. Some (Differs (suc n) (step_at n (rec_at k old).steps).answer a)) ej
        | inr y ↦
            let d = h.0.1 y in
            let same : filter t numbers ≡ i ∷ rest = sym (cond-false (t j) (j ∷ filter t numbers) (filter t numbers) y) ∙ e in
            let next : further (Some best) (differ j) ≡ Some (further_of best d.0) = ap (further (Some best)) d.1 in
            ap (λ b. furthest b numbers) next ∙ finds t n a (further_of best d.0) numbers i rest (further-up_to n best d.0 u d.2) h.1 same
      ]

  none-stays : (numbers : List ℕ) → furthest None numbers ≡ None
  none-stays [] = refl
  none-stays (i ∷ numbers) = none-stays numbers

  further-none : (best : Option Cause) → further best None ≡ None
  further-none None = refl
  further-none (Some c) = refl

  recorded : (best : Option Cause) (t : ℕ → Bool) (numbers : List ℕ) (i : ℕ) (rest : List ℕ) → filter t numbers ≡ i ∷ rest → differ i ≡ None → furthest best numbers ≡ None
  recorded best t [] i rest e d = absurd cc
  recorded best t (j ∷ numbers) i rest e d =
      elim (cases_Bool (t j)) [
        | inl y ↦
            let same : j ∷ filter t numbers ≡ i ∷ rest = sym (cond-true (t j) (j ∷ filter t numbers) (filter t numbers) y) ∙ e in
            let ej : i ≡ j = cc in
            let dj : differ j ≡ None = subst (λ k. differ k ≡ None) ej d in
            ap (λ b. furthest b numbers) (ap (further best) dj ∙ further-none best) ∙ none-stays numbers
        | inr y ↦
            let same : filter t numbers ≡ i ∷ rest = sym (cond-false (t j) (j ∷ filter t numbers) (filter t numbers) y) ∙ e in
            recorded (further best (differ j)) t numbers i rest same d
      ]

  -- one of them has no difference
  found : (best : Option Cause) (numbers : List ℕ) (k i : ℕ) → slice_get numbers k ≡ Some i → differ i ≡ None → furthest best numbers ≡ None
  found best [] k i h d = absurd cc
  found best (j ∷ numbers) zero i h d =
      let e : j ≡ i = cc in
      ap (λ b. furthest b numbers) (ap (further best) (subst (λ k. differ k ≡ None) (sym e) d) ∙ further-none best) ∙ none-stays numbers
  found best (j ∷ numbers) (suc k) i h d = found (further best (differ j)) numbers k i h d

-- a record with the very steps is kept
pub cause-same : (old : List Record) (numbers : List ℕ) (steps : List Step) (k i : ℕ) → slice_get numbers k ≡ Some i → steps ≡ (rec_at i old).steps → cause_among old numbers steps ≡ None
unfolding cause_among
cause-same old numbers steps k i h e =
    found old steps (Some NoRecord) numbers k i h
    (ap (λ l. first_difference 1 l steps) (sym (append-nil steps ∙ e)) ∙ first_difference-prefix 1 steps [])

-- ---- what a matching tells

-- no record has the key
pub cause-none : (old : List Record) (steps : List Step) → cause_among old [] steps ≡ Some NoRecord
unfolding cause_among
cause-none old steps = refl

-- A record is left: it may still be that the command didn't run.
pub cause-left : (old : List Record) (numbers : List ℕ) (steps : List Step) (i : ℕ) (rest : List ℕ) → IsMatching old numbers steps (i ∷ rest) → cause_among old numbers steps ≡ None
unfolding cause_among
cause-left old numbers steps i rest m =
    recorded old steps (Some NoRecord) (λ j. begins (answers_of steps) (rec_at j old).steps) numbers i rest (sym m.left_are)
    (ap (λ l. first_difference 1 l steps) (sym (take-drop_steps (length steps) (rec_at i old).steps) ∙ ap (λ l. l ++ drop (length steps) (rec_at i old).steps) m.alike.0) ∙ first_difference-prefix 1 steps (drop (length steps) (rec_at i old).steps))
  where
    take-drop_steps : (n : ℕ) (xs : List Step) → take n xs ++ drop n xs ≡ xs
    take-drop_steps zero xs = refl
    take-drop_steps (suc n) [] = refl
    take-drop_steps (suc n) (x ∷ xs) = ap (λ l. x ∷ l) (take-drop_steps n xs)

-- None is left behind an answer: the step is this one, and the recorded answer that of the first that was left before.
module _ (old : List Record) (numbers : List ℕ) (steps : List Step) (i : ℕ) (rest : List ℕ) (m : IsMatching old numbers steps (i ∷ rest)) (call : Call) (cost : ℕ) (a : Answer) (says : AllSay old (length steps) (Calls call cost) (i ∷ rest)) (none : filter (is_answered old (length steps) a) (i ∷ rest) ≡ []) where
  abbrev behind : List Step
  behind = steps ++ step cost call a ∷ []

  abbrev Stands : ℕ → Type 0
  Stands j = (BeginsWith steps (rec_at j old) × (next_at (length steps) (rec_at j old) ≡ Calls call cost)) × (is_answered old (length steps) a j ≡ true → ⊥)

  abbrev is_left : ℕ → Bool
  is_left j = begins (answers_of steps) (rec_at j old).steps

  every : Each (λ j. is_left j ≡ true → Stands j) numbers
  every =
      of-left old numbers steps (i ∷ rest) m Stands
      (each-both (λ j. BeginsWith steps (rec_at j old) × (next_at (length steps) (rec_at j old) ≡ Calls call cost)) (λ j. is_answered old (length steps) a j ≡ true → ⊥) (i ∷ rest)
      (each-both (λ j. BeginsWith steps (rec_at j old)) (λ j. next_at (length steps) (rec_at j old) ≡ Calls call cost) (i ∷ rest) m.alike says)
      (each-from_filter (λ j. ⊥) (is_answered old (length steps) a) (i ∷ rest) (subst (Each (λ j. ⊥)) (sym none) tt)))

  differs-last : (j : ℕ) → Stands j → first_difference 1 (rec_at j old).steps behind ≡ Some (Differs (suc (length steps)) (step_at (length steps) (rec_at j old).steps).answer a)
  differs-last j x =
      first_difference-first 1 (length steps) (rec_at j old).steps behind (differs-here (rec_at j old) steps call cost a x.0.0 x.0.1 (false_from_ne_true (is_answered old (length steps) a j) x.1))
      ∙ ap (λ s. Some (Differs (1 + length steps) (step_at (length steps) (rec_at j old).steps).answer s)) (last-answer (rec_at j old) steps call cost a)
      ∙ ap (λ n. Some (Differs n (step_at (length steps) (rec_at j old).steps).answer a)) (let e : 1 + length steps ≡ suc (length steps) = omega arith in e)

  differs-before : (j : ℕ) → IsParted steps (rec_at j old) → (c : Cause) × (first_difference 1 (rec_at j old).steps behind ≡ Some c) × IsUpTo (length steps) c
  differs-before j p =
      let lt : p.0 < length steps = p.1.here.1 in (
        Differs (1 + p.0) (step_at p.0 (rec_at j old).steps).answer (step_at p.0 behind).answer,
        first_difference-first 1 p.0 (rec_at j old).steps behind (differs-still (rec_at j old) steps call cost a p.0 p.1),
        omega arith,
      )

  one-late : (j : ℕ) → (is_left j ≡ true) ⊎ IsParted steps (rec_at j old) → (is_left j ≡ true → Stands j) → IsLate old behind is_left (length steps) a j
  one-late j (inl y) h = (λ z. differs-last j (h z), λ z. absurd (let f : false ≡ true = sym z ∙ y in cc))
  one-late j (inr p) h = (λ z. differs-last j (h z), λ z. differs-before j p)

  late : Each (IsLate old behind is_left (length steps) a) numbers
  late =
      each-map (λ j. ((is_left j ≡ true) ⊎ IsParted steps (rec_at j old)) × (is_left j ≡ true → Stands j)) (IsLate old behind is_left (length steps) a) (λ j h. one-late j h.0 h.1) numbers
      (each-both (λ j. (is_left j ≡ true) ⊎ IsParted steps (rec_at j old)) (λ j. is_left j ≡ true → Stands j) numbers m.others every)

  pub cause-given_up : cause_among old numbers (steps ++ step cost call a ∷ []) ≡ Some (Differs (length steps + 1) (step_at (length steps) (rec_at i old).steps).answer a)
  unfolding cause_among
  cause-given_up =
      finds old behind is_left (length steps) a NoRecord numbers i rest tt late (sym m.left_are)
      ∙ ap (λ n. Some (Differs n (step_at (length steps) (rec_at i old).steps).answer a)) (let e : suc (length steps) ≡ length steps + 1 = omega arith in e)

-- A cause stays as the command goes on.
pub cause-stays : (old : List Record) (numbers : List ℕ) (steps more : List Step) (c : Cause) → cause_among old numbers steps ≡ Some c → cause_among old numbers (steps ++ more) ≡ Some c
unfolding cause_among
cause-stays old numbers steps more c e = go numbers (Some NoRecord) e
  where
    some : (o : Option Cause) (d : Option Cause) → (further o d ≡ None) ⊎ ((x : Cause) × (y : Cause) × (o ≡ Some x) × (d ≡ Some y))
    some None d = inl refl
    some (Some x) None = inl refl
    some (Some x) (Some y) = inr (x, y, refl, refl)

    go : (xs : List ℕ) (best : Option Cause) → fold (λ b i. further b (first_difference 1 (rec_at i old).steps steps)) best xs ≡ Some c → fold (λ b i. further b (first_difference 1 (rec_at i old).steps (steps ++ more))) best xs ≡ Some c
    go [] best e = e
    go (i ∷ xs) best e =
        elim (some best (first_difference 1 (rec_at i old).steps steps)) [
          | inl n ↦ absurd (let z : Some c ≡ None = sym e ∙ ap (λ b. fold (λ b i. further b (first_difference 1 (rec_at i old).steps steps)) b xs) n ∙ none-stays old steps xs in cc)
          | inr s ↦
              let same : first_difference 1 (rec_at i old).steps (steps ++ more) ≡ first_difference 1 (rec_at i old).steps steps = first_difference-stable 1 (rec_at i old).steps steps more s.1 s.3 ∙ sym s.3 in
              go xs (further best (first_difference 1 (rec_at i old).steps (steps ++ more))) (ap (λ d. fold (λ b i. further b (first_difference 1 (rec_at i old).steps steps)) (further best d) xs) same ∙ e)
        ]
