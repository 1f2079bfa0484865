-- What is said after recorded steps.
use Rattle.std.proofs.Common.{◌≡◌, ℕ, zero, suc, ◌+◌, ◌<◌, List, [], ◌∷◌, ◌++◌, length, take, refl, ◌∙◌, ap, arith, inl, inr}
use Rattle.std.proofs.lemmas.List.{take_more}
use Rattle.rk_calls.specs.Keys.{KeyValue}
use Rattle.tr_record.specs.declared.records.Record.{Record}
use Rattle.tr_record.specs.declared.steps.Step.{Step}
use Rattle.rk_calls.specs.Talk.{Says}
use Rattle.rk_calls.specs.Saying.{goes_on}
use Rattle.rk_traces.specs.Spoken.{follow, IsStep, Follows, step_at, no_step, IsSpoken, IsWrongStep}

pub follow-snoc : (x : Says) (xs : List Step) (st : Step) → follow x (xs ++ st ∷ []) ≡ goes_on st.cost (follow x xs) st.answer
follow-snoc x [] st = refl
follow-snoc x (y ∷ ys) st = follow-snoc (goes_on y.cost x y.answer) ys st

pub Follows-snoc : (x : Says) (xs : List Step) (st : Step) → Follows x xs → IsStep (follow x xs) st → Follows x (xs ++ st ∷ [])
Follows-snoc x [] st f e = (e, tt)
Follows-snoc x (y ∷ ys) st f e = (f.0, Follows-snoc (goes_on y.cost x y.answer) ys st f.1 e)

pub Follows-last : (x : Says) (xs : List Step) (st : Step) → Follows x (xs ++ st ∷ []) → IsStep (follow x xs) st
Follows-last x [] st f = f.0
Follows-last x (y ∷ ys) st f = Follows-last (goes_on y.cost x y.answer) ys st f.1

-- what it asks at a place
pub Follows-at : (x : Says) (xs : List Step) (i : ℕ) → Follows x xs → i < length xs → IsStep (follow x (take i xs)) (step_at i xs)
Follows-at x [] i f h = absurd (omega arith)
Follows-at x (y ∷ ys) zero f h = f.0
Follows-at x (y ∷ ys) (suc i) f h = Follows-at (goes_on y.cost x y.answer) ys i f.1 (omega arith)

pub Follows-take : (x : Says) (xs : List Step) (i : ℕ) → Follows x xs → Follows x (take i xs)
Follows-take x [] zero f = tt
Follows-take x [] (suc i) f = tt
Follows-take x (y ∷ ys) zero f = tt
Follows-take x (y ∷ ys) (suc i) f = (f.0, Follows-take (goes_on y.cost x y.answer) ys i f.1)

pub next-take : (steps : List Step) (i : ℕ) → i < length steps → take (i + 1) steps ≡ take i steps ++ step_at i steps ∷ []
next-take steps i h = take_more steps i no_step h

pub follow-next : (x : Says) (steps : List Step) (i : ℕ) → i < length steps → follow x (take (i + 1) steps) ≡ goes_on (step_at i steps).cost (follow x (take i steps)) (step_at i steps).answer
follow-next x steps i h = ap (follow x) (next-take steps i h) ∙ follow-snoc x (take i steps) (step_at i steps)

-- no spoken record has a wrong step
pub never-wrong : (first : KeyValue → Says) (rec : Record) (n : ℕ) → IsSpoken first rec → IsWrongStep first rec n → ⊥
never-wrong first rec n h w =
    elim w.wrong [
      | inl x ↦ x.1 (Follows-at (first rec.key) rec.steps w.place h.follows x.0)
      | inr x ↦ x.1 h.ends
    ]
