-- Laws of spoken records, and of the count of starts.
use Rattle.std.proofs.Common.{◌≡◌, ℕ, zero, suc, ◌+◌, ◌-◌, ◌^◌, ◌≤◌, ◌<◌, List, [], ◌∷◌, length, take, min, Some, None, refl, sym, ◌∙◌, ap, subst, arith, inl, inr}
use Rattle.std.proofs.Math.Nat.{min-eq_left, min-eq_right}
use Rattle.std.proofs.lemmas.Bool.Decides.{leb_tells}
use Rattle.rk_calls.specs.declared.call.Call.{Call}
use Rattle.rk_calls.specs.declared.drive.Spoke.TheVariants.{Call as Calls, Exit as Exits}
use Rattle.rk_calls.specs.Talk.{Says, Lasts}
use Rattle.rk_calls.specs.Saying.{speaks, goes_on}
use Rattle.rk_calls.specs.Keys.{KeyValue}
use Rattle.rk_calls.specs.Starts.{one_more}
use Rattle.tr_record.specs.declared.records.Record.{Record}
use Rattle.tr_record.specs.declared.steps.Step.{Step}
use Rattle.tr_record.specs.Rec.{rec_at}
use Rattle.rk_traces.specs.Following.{never-wrong}
use Rattle.rk_traces.specs.Lasting.{asks-enough, ends-enough, Lasts-goes, Lasts-follow, AllLast}
use Rattle.rk_traces.specs.Run.{step}
use Rattle.rk_traces.specs.Spoken.{follow, IsStep, Follows, step_at, IsSpoken, IsWrongStep}
use Rattle.rk_traces.specs.Checked.{IsFirstWrong}
use Rattle.rk_traces.specs.Differences.{BothHave, IsFirstDifference, AnswerAlike, AskAlike, DifferFrom}
use Rattle.rk_traces.specs.Started.{started}

-- A record has one wrong step at most.
Follows-within : (x : Says) (xs : List Step) (i j : ℕ) → Follows x (take j xs) → i < j → i < length xs → IsStep (follow x (take i xs)) (step_at i xs)
Follows-within x [] i j f h k = absurd (omega arith)
Follows-within x (y ∷ ys) i zero f h k = absurd (omega arith)
Follows-within x (y ∷ ys) zero (suc j) f h k = f.0
Follows-within x (y ∷ ys) (suc i) (suc j) f h k = Follows-within (goes_on y.cost x y.answer) ys i j f.1 (omega arith) (omega arith)

not-later : (first : KeyValue → Says) (rec : Record) (m n : ℕ) → (w : IsWrongStep first rec m) → (v : IsWrongStep first rec n) → w.place < v.place → ⊥
not-later first rec m n w v h =
    elim w.wrong [
      | inl k ↦ k.1 (Follows-within (first rec.key) rec.steps w.place v.place v.before h k.0)
      | inr k ↦
          let e : w.place ≡ length rec.steps = k.0 in
          elim v.wrong [
            | inl l ↦ let lt : v.place < length rec.steps = l.0 in absurd (omega arith)
            | inr l ↦ let e' : v.place ≡ length rec.steps = l.0 in absurd (omega arith)
          ]
    ]

pub one-wrong_step : (first : KeyValue → Says) (rec : Record) (m n : ℕ) → IsWrongStep first rec m → IsWrongStep first rec n → m ≡ n
one-wrong_step first rec m n w v =
    let em : m ≡ w.place + 1 = w.number_is in
    let en : n ≡ v.place + 1 = v.number_is in
    elim (leb_tells w.place v.place) [
      | inl e ↦
          let le : w.place ≤ v.place = e.1 in
          elim (leb_tells v.place w.place) [
            | inl f ↦ let ge : v.place ≤ w.place = f.1 in omega arith
            | inr f ↦ absurd (not-later first rec m n w v f.1)
          ]
      | inr e ↦ absurd (not-later first rec n m v w e.1)
    ]

-- A table has one first wrong record at most, and none if it is spoken.
first-not_later : (first : KeyValue → Says) (table : List Record) (r s r' s' : ℕ) → IsFirstWrong first table r s → IsFirstWrong first table r' s' → r < r' → ⊥
first-not_later first table r s r' s' w v h = never-wrong first (rec_at r table) s (v.before r h) w.wrong

pub one-first_wrong : (first : KeyValue → Says) (table : List Record) (r s r' s' : ℕ) → IsFirstWrong first table r s → IsFirstWrong first table r' s' → (r ≡ r') × (s ≡ s')
one-first_wrong first table r s r' s' w v =
    let same : r ≡ r' =
    elim (leb_tells r r') [
      | inl e ↦
          let le : r ≤ r' = e.1 in
          elim (leb_tells r' r) [
            | inl f ↦ let ge : r' ≤ r = f.1 in omega arith
            | inr f ↦ absurd (first-not_later first table r s r' s' w v f.1)
          ]
      | inr e ↦ absurd (first-not_later first table r' s' r s v w e.1)
    ] in
    (same, one-wrong_step first (rec_at r' table) s s' (subst (λ r. IsWrongStep first (rec_at r table) s) same w.wrong) v.wrong)

-- What spoken records of one key have in common.
pub ask-alike : (x : Says) → Lasts x → (s t : Step) → IsStep x s → IsStep x t → AskAlike s t
ask-alike x l s t f g =
    let e : Calls s.call s.cost ≡ Calls t.call t.cost =
    sym (asks-enough x l s.cost (s.cost + t.cost) s.call f.0 (omega arith)) ∙ asks-enough x l t.cost (s.cost + t.cost) t.call g.0 (omega arith) in
    (cc, cc)

same-step : (s t : Step) → AskAlike s t → s.answer ≡ t.answer → s ≡ t
same-step s t a e = ap (λ cost. step cost s.call s.answer) a.1 ∙ ap (λ call. step t.cost call s.answer) a.0 ∙ ap (step t.cost t.call) e

-- up to the first answer that differs, and there, they ask alike
pub ask-alike_at : (x : Says) → Lasts x → (xs ys : List Step) (i : ℕ) → Follows x xs → Follows x ys → BothHave xs ys i → ((k : ℕ) → k < i → (step_at k xs).answer ≡ (step_at k ys).answer) → AskAlike (step_at i xs) (step_at i ys)
ask-alike_at x l [] ys i f g h e = let lt : i < length (let none : List Step = [] in none) = h.0 in absurd (omega arith)
ask-alike_at x l (s ∷ xs) [] i f g h e = let lt : i < length (let none : List Step = [] in none) = h.1 in absurd (omega arith)
ask-alike_at x l (s ∷ xs) (t ∷ ys) zero f g h e = ask-alike x l s t f.0 g.0
ask-alike_at x l (s ∷ xs) (t ∷ ys) (suc i) f g h e =
    let same = same-step s t (ask-alike x l s t f.0 g.0) (e 0 (omega arith)) in
    ask-alike_at (goes_on s.cost x s.answer) (Lasts-goes x l s.call s.cost f.0.0 s.answer) xs ys i f.1
    (subst (λ (t : Step). Follows (goes_on t.cost x t.answer) ys) (sym same) g.1)
    ((let a : suc i < suc (length xs) = h.0 in omega arith), (let b : suc i < suc (length ys) = h.1 in omega arith))
    (λ k lt. e (suc k) (omega arith))

asks-or_ends : (x : Says) → Lasts x → (call : Call) (c status d : ℕ) → speaks c x ≡ Calls call c → speaks d x ≡ Exits status d → ⊥
asks-or_ends x l call c status d e f =
    let z : Calls call c ≡ Exits status d = sym (asks-enough x l c (c + d) call e (omega arith)) ∙ ends-enough x l d (c + d) status f (omega arith) in
    cc

-- where no answer differs they have the same steps
pub same-steps : (x : Says) → Lasts x → (xs ys : List Step) (sx cx sy cy : ℕ) → Follows x xs → Follows x ys → speaks cx (follow x xs) ≡ Exits sx cx → speaks cy (follow x ys) ≡ Exits sy cy → AnswerAlike xs ys → xs ≡ ys
same-steps x l [] [] sx cx sy cy f g ex ey h = refl
same-steps x l [] (t ∷ ys) sx cx sy cy f g ex ey h = absurd (asks-or_ends x l t.call t.cost sx cx g.0.0 ex)
same-steps x l (s ∷ xs) [] sx cx sy cy f g ex ey h = absurd (asks-or_ends x l s.call s.cost sy cy f.0.0 ey)
same-steps x l (s ∷ xs) (t ∷ ys) sx cx sy cy f g ex ey h =
    let same = same-step s t (ask-alike x l s t f.0 g.0) (h 0 (omega arith, omega arith)) in
    let rest =
    same-steps (goes_on s.cost x s.answer) (Lasts-goes x l s.call s.cost f.0.0 s.answer) xs ys sx cx sy cy f.1
    (subst (λ (t : Step). Follows (goes_on t.cost x t.answer) ys) (sym same) g.1) ex
    (subst (λ (t : Step). speaks cy (follow (goes_on t.cost x t.answer) ys) ≡ Exits sy cy) (sym same) ey)
    (λ k b. h (suc k) ((let a : k < length xs = b.0 in omega arith), (let a : k < length ys = b.1 in omega arith))) in
    ap (λ (t : Step). t ∷ xs) same ∙ ap (λ ys. t ∷ ys) rest

pub same-exits : (x : Says) → Lasts x → (sx cx sy cy : ℕ) → speaks cx x ≡ Exits sx cx → speaks cy x ≡ Exits sy cy → (sx ≡ sy) × (cx ≡ cy)
same-exits x l sx cx sy cy e f =
    let z : Exits sx cx ≡ Exits sy cy = sym (ends-enough x l cx (cx + cy) sx e (omega arith)) ∙ ends-enough x l cy (cx + cy) sy f (omega arith) in
    (cc, cc)

-- Two spoken records of one key that differ in more than their ordinals first differ in the answer of one step;
-- there and before, calls and costs are equal.
pub spoken-differ : (first : KeyValue → Says) → AllLast first → (a b : Record) → IsSpoken first a → IsSpoken first b → a.key ≡ b.key → (i : ℕ) → IsFirstDifference a.steps b.steps i → DifferFrom a b (Some i)
spoken-differ first lasts a b sa sb ek i d k h =
    let x : i < length a.steps = d.here.0 in
    let y : i < length b.steps = d.here.1 in
    ask-alike_at (first a.key) (lasts a.key) a.steps b.steps k sa.follows (subst (λ key. Follows (first key) b.steps) (sym ek) sb.follows) (omega arith, omega arith) (λ j lt. d.before j (omega arith))

pub spoken-alike : (first : KeyValue → Says) → AllLast first → (a b : Record) → IsSpoken first a → IsSpoken first b → a.key ≡ b.key → AnswerAlike a.steps b.steps → DifferFrom a b None
spoken-alike first lasts a b sa sb ek h =
    let fb = subst (λ key. Follows (first key) b.steps) (sym ek) sb.follows in
    let eb = subst (λ key. speaks b.exit_cost (follow (first key) b.steps) ≡ Exits b.exit b.exit_cost) (sym ek) sb.ends in
    let same = same-steps (first a.key) (lasts a.key) a.steps b.steps a.exit a.exit_cost b.exit b.exit_cost sa.follows fb sa.ends eb h in
    let exits =
    same-exits (follow (first a.key) a.steps) (Lasts-follow (first a.key) (lasts a.key) a.steps sa.follows) a.exit a.exit_cost b.exit b.exit_cost sa.ends
    (subst (λ steps. speaks b.exit_cost (follow (first a.key) steps) ≡ Exits b.exit b.exit_cost) (sym same) eb) in
    (same, exits.0, exits.1)

-- The count of starts.
min-more : (a m : ℕ) → min (min a m + 1) m ≡ min (a + 1) m
min-more a m =
    elim (leb_tells m a) [
      | inl e ↦
          let le : m ≤ a = e.1 in
          let low = min-eq_right le in
          let top = min-eq_right (let h : m ≤ m + 1 = omega arith in h) in
          let high = min-eq_right (let h : m ≤ a + 1 = omega arith in h) in
          rw (low, top, high) refl
      | inr e ↦ let lt : a < m = e.1 in let low = min-eq_left (let h : a ≤ m = omega arith in h) in rw low refl
    ]

started-within : (m more count : ℕ) → (steps : (n : ℕ) → one_more n ≡ min (n + 1) m) → count ≤ m → started more count ≡ min (count + more) m
started-within m zero count steps h = let z : count + 0 ≡ count = omega arith in rw z (sym (min-eq_left h))
started-within m (suc more) count steps h =
    let z : (count + more) + 1 ≡ count + suc more = omega arith in
    steps (started more count) ∙ ap (λ n. min (n + 1) m) (started-within m more count steps h) ∙ min-more (count + more) m ∙ ap (λ n. min n m) z

-- it rises by one each, and stays at the largest `u64`
pub started-is : (more count : ℕ) → count ≤ 2 ^ 64 - 1 → started more count ≡ min (count + more) (2 ^ 64 - 1)
started-is more count h = started-within (2 ^ 64 - 1) more count (λ n. refl) h

pub started-adds : (more again count : ℕ) → started (more + again) count ≡ started more (started again count)
started-adds zero again count = let z : 0 + again ≡ again = omega arith in ap (λ k. started k count) z
started-adds (suc more) again count =
    let z : suc more + again ≡ suc (more + again) = omega arith in
    ap (λ k. started k count) z ∙ ap one_more (started-adds more again count)
