-- What a record has next, by its steps.
use Rattle.std.proofs.Common.{◌≡◌, ◌↔◌, ℕ, zero, suc, ◌≤◌, ◌<◌, Bool, true, false, ◌&&◌, IsTrue, List, [], ◌∷◌, length, drop, refl, sym, ◌∙◌, ap, arith}
use Rattle.std.proofs.lemmas.List.{drop_all}
use Rattle.rk_calls.specs.declared.answer.Answer.{Answer}
use Rattle.rk_calls.specs.declared.drive.Spoke.TheVariants.{Call as Calls, Exit as Exits}
use Rattle.tr_record.specs.declared.records.Record.{Record}
use Rattle.tr_record.specs.declared.steps.Step.{Step}
use Rattle.tr_matching.specs.Steps.{step_at}
use Rattle.tr_matching.specs.Answers.{same_answer}
use Rattle.tr_matching.specs.AnswerLaws.{same-answer, same-itself}
use Rattle.tr_matching.specs.Left.{begins, next_in, next_at}

pub step-drop : (n : ℕ) (xs : List Step) → n < length xs → drop n xs ≡ step_at n xs ∷ drop (suc n) xs
step-drop n [] h = absurd (omega arith)
step-drop zero (x ∷ xs) h = refl
step-drop (suc n) (x ∷ xs) h = step-drop n xs (omega arith)

-- it has a step there
pub next_step : (at : ℕ) (rec : Record) → at < length rec.steps → next_at at rec ≡ Calls (step_at at rec.steps).call (step_at at rec.steps).cost
next_step at rec h = ap (next_in rec.exit rec.exit_cost) (step-drop at rec.steps h)

-- it has none
pub next_end : (at : ℕ) (rec : Record) → length rec.steps ≤ at → next_at at rec ≡ Exits rec.exit rec.exit_cost
next_end at rec h = ap (next_in rec.exit rec.exit_cost) (drop_all at rec.steps h)

-- whether its step there was answered so
pub answered-past : (at : ℕ) (xs : List Step) (a : Answer) → length xs ≤ at → begins (a ∷ []) (drop at xs) ≡ false
answered-past at xs a h = ap (begins (a ∷ [])) (drop_all at xs h)

told-by : (b : Bool) (x a : Answer) → (IsTrue b ↔ (x ≡ a)) → (t : Bool) → same_answer x a ≡ t → b ≡ t
told-by true x a h t e = sym (sym e ∙ ap (λ y. same_answer y a) (h.0 refl) ∙ same-itself a)
told-by false x a h true e = absurd (let z : false ≡ true = h.1 (same-answer x a e) in cc)
told-by false x a h false e = refl

pub answered-is : (b : Bool) (at : ℕ) (xs : List Step) (a : Answer) → at < length xs → (IsTrue b ↔ ((step_at at xs).answer ≡ a)) → b ≡ begins (a ∷ []) (drop at xs)
answered-is b at xs a lt h =
    told-by b (step_at at xs).answer a h (same_answer (step_at at xs).answer a) refl
    ∙ sym (ap (begins (a ∷ [])) (step-drop at xs lt) ∙ and-true (same_answer (step_at at xs).answer a))
  where
    and-true : (t : Bool) → (begins (a ∷ []) (step_at at xs ∷ drop (suc at) xs)) ≡ same_answer (step_at at xs).answer a
    and-true t = elim (same_answer (step_at at xs).answer a) as (λ u. (u && true) ≡ u) [ true ↦ refl | false ↦ refl ]

pub some-length : (xs : List ℕ) → (xs ≡ [] → ⊥) → 0 < length xs
some-length [] h = absurd (h refl)
some-length (x ∷ xs) h = omega arith
