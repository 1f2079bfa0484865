-- Steps that are gone through: what is left after so many of them.
use Rattle.std.proofs.Common.{◌≡◌, ◌∙◌, ℕ, zero, suc, ◌+◌, ◌≤◌, ◌<◌, List, [], ◌∷◌, length, drop, sym, ap, arith}
use Rattle.tr_record.specs.declared.steps.Step.{Step}
use Rattle.rk_traces.specs.Spoken.{step_at}

-- after so many steps there is one more, and then the rest
pub record IsNextStep (steps : List Step) (i : ℕ) (st : Step) (rest : List Step) : Type 0 where
  pub here : i < length steps
  pub is : st ≡ step_at i steps
  pub rest_is : rest ≡ drop (i + 1) steps

pub left-next : (steps : List Step) (i : ℕ) (st : Step) (rest : List Step) → drop i steps ≡ st ∷ rest → IsNextStep steps i st rest
left-next [] zero st rest e = absurd (let f : [] ≡ st ∷ rest = e in cc)
left-next [] (suc i) st rest e = absurd (let f : [] ≡ st ∷ rest = e in cc)
left-next (x ∷ xs) zero st rest e =
    let f : x ∷ xs ≡ st ∷ rest = e in
    record { here = omega arith; is = (let is : st ≡ x = cc in is); rest_is = (let same : rest ≡ xs = cc in same) }
left-next (x ∷ xs) (suc i) st rest e =
    let h = left-next xs i st rest e in
    let lt : i < length xs = h.here in
    let more : suc i + 1 ≡ suc (i + 1) = omega arith in
    record { here = omega arith; is = h.is; rest_is = h.rest_is ∙ ap (λ n. drop n (x ∷ xs)) (sym more) }

pub left-none : (steps : List Step) (i : ℕ) → drop i steps ≡ [] → length steps ≤ i
left-none [] i e = omega arith
left-none (x ∷ xs) zero e = absurd (let f : x ∷ xs ≡ [] = e in cc)
left-none (x ∷ xs) (suc i) e = let h = left-none xs i e in omega arith
