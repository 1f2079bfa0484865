-- Records that were answered so, and what a filter keeps of their numbers.
use Rattle.std.proofs.Common.{◌≡◌, ◌≢◌, ℕ, zero, suc, ◌<◌, Bool, true, false, cond, List, [], ◌∷◌, ◌++◌, length, drop, filter, refl, ◌∙◌, ap}
use Rattle.std.specs.List.{AllByRecursion as Each}
use Rattle.std.proofs.lemmas.Bool.{and_parts, and_from, false_from_ne_true}
use Rattle.std.proofs.lemmas.List.{append-nil}
use Rattle.std.proofs.lemmas.List.Elements.{filter-append}
use Rattle.rk_calls.specs.declared.answer.Answer.{Answer}
use Rattle.tr_record.specs.declared.records.Record.{Record}
use Rattle.tr_record.specs.declared.steps.Step.{Step}
use Rattle.tr_record.specs.Rec.{rec_at}
use Rattle.tr_matching.specs.AnswerLaws.{same-answer, same-itself}
use Rattle.tr_matching.specs.Answers.{same_answer}
use Rattle.tr_matching.specs.Left.{begins, is_answered}
use Rattle.tr_matching.specs.Matching.{head_of}
use Rattle.tr_matching.specs.Steps.{answer_at, step_at}
use Rattle.tr_matching.proofs.NextLemmas.{step-drop}

-- ---- answers

tells-in : (n : ℕ) (xs : List Step) (a : Answer) → begins (a ∷ []) (drop n xs) ≡ true → (step_at n xs).answer ≡ a
tells-in zero [] a e = absurd cc
tells-in (suc n) [] a e = absurd cc
tells-in zero (x ∷ xs) a e = same-answer x.answer a (and_parts (same_answer x.answer a) true e).0
tells-in (suc n) (x ∷ xs) a e = tells-in n xs a e

pub answered-tells : (old : List Record) (at : ℕ) (a : Answer) (i : ℕ) → is_answered old at a i ≡ true → answer_at old at i ≡ a
answered-tells old at a i e = tells-in at (rec_at i old).steps a e

pub answered-so : (old : List Record) (at : ℕ) (a : Answer) (i : ℕ) → at < length (rec_at i old).steps → answer_at old at i ≡ a → is_answered old at a i ≡ true
answered-so old at a i h e =
    ap (begins (a ∷ [])) (step-drop at (rec_at i old).steps h)
    ∙ and_from (same_answer (answer_at old at i) a) true (ap (λ x. same_answer x a) e ∙ same-itself a) refl

pub answered-other : (old : List Record) (at : ℕ) (a : Answer) (i : ℕ) → answer_at old at i ≢ a → is_answered old at a i ≡ false
answered-other old at a i h = false_from_ne_true (is_answered old at a i) (λ e. h (answered-tells old at a i e))

-- ---- filters

pub filter-none : (t : ℕ → Bool) (xs : List ℕ) → Each (λ i. t i ≡ true → ⊥) xs → filter t xs ≡ []
filter-none t [] e = refl
filter-none t (x ∷ xs) e = ap (λ b. cond b (x ∷ filter t xs) (filter t xs)) (false_from_ne_true (t x) e.0) ∙ filter-none t xs e.1

pub filter-every : (t : ℕ → Bool) (xs : List ℕ) → Each (λ i. t i ≡ true) xs → filter t xs ≡ xs
filter-every t [] e = refl
filter-every t (x ∷ xs) e = ap (λ b. cond b (x ∷ filter t xs) (filter t xs)) e.0 ∙ ap (λ l. x ∷ l) (filter-every t xs e.1)

pub filter-yes : (t : ℕ → Bool) (xs : List ℕ) (i : ℕ) → t i ≡ true → filter t (xs ++ i ∷ []) ≡ filter t xs ++ i ∷ []
filter-yes t xs i e = filter-append t xs (i ∷ []) ∙ ap (λ b. filter t xs ++ cond b (i ∷ []) []) e

pub filter-no : (t : ℕ → Bool) (xs : List ℕ) (i : ℕ) → t i ≡ false → filter t (xs ++ i ∷ []) ≡ filter t xs
filter-no t xs i e = filter-append t xs (i ∷ []) ∙ ap (λ b. filter t xs ++ cond b (i ∷ []) []) e ∙ append-nil (filter t xs)

-- ---- the first of a list

pub of-first : (P : ℕ → Type 0) (l : List ℕ) → l ≢ [] → Each P l → P (head_of l)
of-first P [] ne e = absurd (ne refl)
of-first P (x ∷ l) ne e = e.0

pub head-push : (xs : List ℕ) (i : ℕ) → xs ≢ [] → head_of (xs ++ i ∷ []) ≡ head_of xs
head-push [] i h = absurd (h refl)
head-push (x ∷ xs) i h = refl
