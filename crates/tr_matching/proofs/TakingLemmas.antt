-- Where an answer leads behind the steps that a group has in common.
use Rattle.std.proofs.Common.{◌≡◌, ℕ, ◌+◌, ◌<◌, List, [], length, filter, Option, Some, None, IfSome, IfNone, sym, subst}
use Rattle.rk_calls.specs.declared.answer.Answer.{Answer}
use Rattle.tr_record.specs.Rec.{rec_at}
use Rattle.tr_record.specs.declared.steps.Step.{Step}
use Rattle.tr_matching.specs.declared.cause.Cause.TheVariants.{Differs}
use Rattle.tr_matching.specs.declared.group.Group.{Group}
use Rattle.tr_matching.specs.declared.place.Place.{Place}
use Rattle.tr_matching.specs.declared.place.Taken.{Taken}
use Rattle.tr_matching.specs.declared.place.Taken.TheVariants.{On, GivenUp}
use Rattle.tr_matching.specs.Earlier.{EarlierRecords}
use Rattle.tr_matching.specs.Groups.{Grows, first_of, group_at, numbers_of}
use Rattle.tr_matching.specs.Left.{is_answered}
use Rattle.tr_matching.specs.Places.{IsAt, TakesOn}
use Rattle.tr_matching.specs.Steps.{step_at}
use Rattle.tr_matching.proofs.TakeLemmas.{take-none, take-part}

module _ (e : EarlierRecords) (before now : List Group) (g at : ℕ) (w : Grows before now) (h : g < length before) (alike : (group_at g now).alike ≡ at) (a : Answer) (st : Step) (is : st ≡ step_at at (rec_at (first_of (group_at g before)) e.records).steps) where
  pub take-either : (o : Option Place) (t : Taken) → IfSome o (λ p. IsAt e now p × (p.at ≡ at + 1)) → IfSome o (λ p. numbers_of (group_at p.group now) ≡ filter (is_answered e.records (group_at g now).alike a) (numbers_of (group_at g now)))
      → IfNone o (filter (is_answered e.records (group_at g now).alike a) (numbers_of (group_at g now)) ≡ []) → IfSome o (λ p. t ≡ On p) → IfNone o (t ≡ GivenUp (Differs (at + 1) st.answer a)) → TakesOn e at (numbers_of (group_at g before)) a now t
  take-either None t there some none on off = take-none e before now g at w h alike a st t is none off
  take-either (Some p) t there some none on off = subst (TakesOn e at (numbers_of (group_at g before)) a now) (sym on) (take-part e before now g at w h alike a p there.0 there.1 some)
