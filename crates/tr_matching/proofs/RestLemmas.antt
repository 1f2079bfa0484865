-- The rests of records by their numbers.
use Rattle.std.proofs.Common.{◌≡◌, ◌∙◌, ℕ, zero, suc, ◌+◌, ◌≤◌, ◌<◌, List, [], ◌∷◌, length, drop, sym, ap, arith}
use Rattle.tr_record.specs.Pool.{steps_under}
use Rattle.tr_record.specs.Rec.{rec_at}
use Rattle.tr_record.specs.declared.steps.Step.{Step}
use Rattle.tr_matching.specs.Earlier.{EarlierRecords, IsRest}
use Rattle.tr_matching.specs.Steps.{step_at}

-- of steps after so many: there is one more, and then the rest
record IsNextStep (steps : List Step) (i : ℕ) (st : Step) (rest : List Step) : Type 0 where
  here : i < length steps
  is : st ≡ step_at i steps
  rest_is : rest ≡ drop (i + 1) steps

drop-next : (steps : List Step) (i : ℕ) (st : Step) (rest : List Step) → drop i steps ≡ st ∷ rest → IsNextStep steps i st rest
drop-next [] zero st rest e = absurd (let f : [] ≡ st ∷ rest = e in cc)
drop-next [] (suc i) st rest e = absurd (let f : [] ≡ st ∷ rest = e in cc)
drop-next (x ∷ xs) zero st rest e =
    let f : x ∷ xs ≡ st ∷ rest = e in
    record { here = omega arith; is = (let is : st ≡ x = cc in is); rest_is = (let same : rest ≡ xs = cc in same) }
drop-next (x ∷ xs) (suc i) st rest e =
    let h = drop-next xs i st rest e in
    let lt : i < length xs = h.here in
    let more : suc i + 1 ≡ suc (i + 1) = omega arith in
    record { here = omega arith; is = h.is; rest_is = h.rest_is ∙ ap (λ n. drop n (x ∷ xs)) (sym more) }

drop-none : (steps : List Step) (i : ℕ) → drop i steps ≡ [] → length steps ≤ i
drop-none [] i e = omega arith
drop-none (x ∷ xs) zero e = absurd (let f : x ∷ xs ≡ [] = e in cc)
drop-none (x ∷ xs) (suc i) e = let h = drop-none xs i e in omega arith

module _ (e : EarlierRecords) (rec at number : ℕ) (r : IsRest e rec at number) where
  -- a step, and what follows it
  module _ (st : Step) (next : ℕ) (f : steps_under e.contents.nodes number ≡ st ∷ steps_under e.contents.nodes next) where
    step : IsNextStep (rec_at rec e.records).steps at st (steps_under e.contents.nodes next)
    step = drop-next (rec_at rec e.records).steps at st (steps_under e.contents.nodes next) (sym r.rest ∙ f)

    pub rest-here : at < length (rec_at rec e.records).steps
    rest-here = step.here

    pub rest-step : st ≡ step_at at (rec_at rec e.records).steps
    rest-step = step.is

    pub rest-next : next ≤ length e.contents.nodes → IsRest e rec (at + 1) next
    rest-next le = record { within = le; rest = step.rest_is }

  -- no step
  pub rest-none : steps_under e.contents.nodes number ≡ [] → length (rec_at rec e.records).steps ≤ at
  rest-none f = drop-none (rec_at rec e.records).steps at (sym r.rest ∙ f)
