-- Where an answer leads.
use Rattle.std.proofs.Common.{◌≡◌, ◌≢◌, ℕ, ◌+◌, ◌<◌, true, List, [], length, filter, Some, None, refl, sym, ◌∙◌, ap, subst, arith}
use Rattle.rk_calls.specs.declared.answer.Answer.{Answer}
use Rattle.tr_record.specs.Rec.{rec_at}
use Rattle.tr_record.specs.declared.steps.Step.{Step}
use Rattle.tr_matching.specs.declared.cause.Cause.TheVariants.{Differs}
use Rattle.tr_matching.specs.declared.group.Group.{Group}
use Rattle.tr_matching.specs.declared.place.Place.{Place}
use Rattle.tr_matching.specs.declared.place.Taken.{Taken}
use Rattle.tr_matching.specs.declared.place.Taken.TheVariants.{On, GivenUp}
use Rattle.tr_matching.specs.Earlier.{EarlierRecords, IsRest}
use Rattle.tr_matching.specs.Groups.{Grows, IsCommon, IsSplit, first_of, group_at, numbers_of}
use Rattle.tr_matching.specs.Index.{part_of}
use Rattle.tr_matching.specs.Left.{is_answered}
use Rattle.tr_matching.specs.Places.{IsAt, TakesOn}
use Rattle.tr_matching.specs.Steps.{answer_at, step_at}
use Rattle.tr_matching.proofs.EachLemmas.{each-map}
use Rattle.tr_matching.proofs.FilterLemmas.{answered-tells, filter-none}
use Rattle.tr_matching.proofs.GroupLemmas.{common-off, common-on}

-- ---- among the steps in common

module _ (e : EarlierRecords) (groups : List Group) (g at : ℕ) (c : IsCommon e (group_at g groups)) (lt : at < (group_at g groups).alike) (st : Step) (is : st ≡ step_at at (rec_at (first_of (group_at g groups)) e.records).steps) (a : Answer) where
  pub take-on : (rest : ℕ) → g < length groups → st.answer ≡ a → IsRest e (first_of (group_at g groups)) (at + 1) rest
      → TakesOn e at (numbers_of (group_at g groups)) a groups (On (record { group = g; at = at + 1; rest = rest }))
  take-on rest h q r = (record { here = h; within = omega arith; rest = r }, refl, common-on e (group_at g groups) at a c lt (ap (λ (s : Step). s.answer) (sym is) ∙ q))

  pub take-off : (taken : Taken) → st.answer ≢ a → taken ≡ GivenUp (Differs (at + 1) st.answer a) → TakesOn e at (numbers_of (group_at g groups)) a groups taken
  take-off taken ne q =
      subst (TakesOn e at (numbers_of (group_at g groups)) a groups) (sym q)
      (common-off e (group_at g groups) at a c lt (λ z. ne (ap (λ (s : Step). s.answer) is ∙ z)), ap (λ (s : Step). Differs (at + 1) s.answer a) is)

-- ---- among the parts

-- no part stands under an answer: no record has it
pub split-none : (e : EarlierRecords) (groups : List Group) (it : Group) (a : Answer) → IsSplit e groups it → part_of it.parts a ≡ None → filter (is_answered e.records it.alike a) (numbers_of it) ≡ []
split-none e groups it a s none =
    filter-none (is_answered e.records it.alike a) (numbers_of it)
    (each-map (λ i. (c : ℕ) × (part_of it.parts (answer_at e.records it.alike i) ≡ Some c)) (λ i. is_answered e.records it.alike a i ≡ true → ⊥)
    (λ i f t. let z : None ≡ Some f.0 = sym none ∙ sym (ap (part_of it.parts) (answered-tells e.records it.alike a i t)) ∙ f.1 in absurd cc) (numbers_of it) s.cover)

-- the part under an answer
pub split-some : (e : EarlierRecords) (groups : List Group) (it : Group) (a : Answer) (c : ℕ) (place : Place) → IsSplit e groups it → part_of it.parts a ≡ Some c → place ≡ record { group = it.from + c; at = it.alike + 1; rest = (group_at (it.from + c) groups).start } → IsAt e groups place
split-some e groups it a c place s f q =
    let p = s.parts a c f in
    subst (IsAt e groups) (sym q) (record { here = p.0; within = (let x = p.1.further in omega arith); rest = p.1.start })

-- behind a group that was parted
module _ (e : EarlierRecords) (before now : List Group) (g at : ℕ) (w : Grows before now) (h : g < length before) (alike : (group_at g now).alike ≡ at) (a : Answer) where
  pub take-part : (place : Place) → IsAt e now place → place.at ≡ at + 1 → numbers_of (group_at place.group now) ≡ filter (is_answered e.records (group_at g now).alike a) (numbers_of (group_at g now))
      → TakesOn e at (numbers_of (group_at g before)) a now (On place)
  take-part place i q f = (i, q, f ∙ ap (λ n. filter (is_answered e.records n a) (numbers_of (group_at g now))) alike ∙ ap (filter (is_answered e.records at a)) (w.same g h))

  pub take-none : (st : Step) (taken : Taken) → st ≡ step_at at (rec_at (first_of (group_at g before)) e.records).steps → filter (is_answered e.records (group_at g now).alike a) (numbers_of (group_at g now)) ≡ []
      → taken ≡ GivenUp (Differs (at + 1) st.answer a) → TakesOn e at (numbers_of (group_at g before)) a now taken
  take-none st taken is f q =
      subst (TakesOn e at (numbers_of (group_at g before)) a now) (sym q)
      (sym (ap (λ n. filter (is_answered e.records n a) (numbers_of (group_at g now))) alike ∙ ap (filter (is_answered e.records at a)) (w.same g h)) ∙ f, ap (λ (s : Step). Differs (at + 1) s.answer a) is)
