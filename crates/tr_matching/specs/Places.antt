-- Where a command is among the groups of its key's records, and where an answer leads.
use Rattle.std.specs.Prelude.{◌≡◌, ℕ, ◌+◌, ◌≤◌, ◌<◌, List, [], length, filter}
use Rattle.rk_calls.specs.declared.answer.Answer.{Answer}
use Rattle.rk_calls.specs.declared.drive.Spoke.{Spoke}
use Rattle.rk_calls.specs.declared.drive.Spoke.TheVariants.{Call as Calls, Exit as Exits}
use Rattle.tr_record.specs.declared.records.Record.{Record}
use Rattle.tr_matching.specs.declared.cause.Cause.TheVariants.{Differs}
use Rattle.tr_matching.specs.declared.group.Group.{Group}
use Rattle.tr_matching.specs.declared.next.Next.{Next}
use Rattle.tr_matching.specs.declared.next.Next.TheVariants.{Asks, Ends, Torn}
use Rattle.tr_matching.specs.declared.place.Place.{Place}
use Rattle.tr_matching.specs.declared.place.Taken.{Taken}
use Rattle.tr_matching.specs.declared.place.Taken.TheVariants.{On, GivenUp}
use Rattle.tr_matching.specs.Earlier.{EarlierRecords, IsRest}
use Rattle.tr_matching.specs.Groups.{first_of, group_at, numbers_of}
use Rattle.tr_matching.specs.Left.{is_answered, next_at}
use Rattle.tr_matching.specs.Matching.{AreTorn, HaveOne, IsDear, head_of}
use Rattle.tr_matching.specs.Steps.{answer_at}

-- they have this next, or are torn
abbrev pub IsNext : List Record → ℕ → List ℕ → Next → Type 0
IsNext old at now (Asks call cost) = HaveOne old at now (Calls call cost)
IsNext old at now (Ends status cost) = HaveOne old at now (Exits status cost)
IsNext old at now Torn = AreTorn old at now

-- a record has this next, or asks at no cost
abbrev pub IsNextOf : ℕ → Record → Next → Type 0
IsNextOf at rec (Asks call cost) = (next_at at rec ≡ Calls call cost) × (1 ≤ cost)
IsNextOf at rec (Ends status cost) = next_at at rec ≡ Exits status cost
IsNextOf at rec Torn = (s : Spoke) → next_at at rec ≡ s → ¬ IsDear s

abbrev pub IsTorn : Next → Type 0
IsTorn (Asks call cost) = ⊥
IsTorn (Ends status cost) = ⊥
IsTorn Torn = Unit {0}

-- a command is at this place: its group has its steps so far in common, and the rest of the first record has this number
pub record IsAt (e : EarlierRecords) (groups : List Group) (place : Place) : Type 0 where
  pub here : place.group < length groups
  pub within : place.at ≤ (group_at place.group groups).alike
  pub rest : IsRest e (first_of (group_at place.group groups)) place.at place.rest

-- The group of this number begins behind no step.
abbrev pub IsBegun : EarlierRecords → List Group → ℕ → Type 0
IsBegun e groups g = (g < length groups) × IsRest e (first_of (group_at g groups)) 0 (group_at g groups).start

-- behind an answer: the place of those that were answered so; where none was, why the records are given up
abbrev pub TakesOn : EarlierRecords → ℕ → List ℕ → Answer → List Group → Taken → Type 0
TakesOn e at was a groups (On place) =
    IsAt e groups place × (place.at ≡ at + 1) × (numbers_of (group_at place.group groups) ≡ filter (is_answered e.records at a) was)
TakesOn e at was a groups (GivenUp cause) =
    (filter (is_answered e.records at a) was ≡ []) × (cause ≡ Differs (at + 1) (answer_at e.records at (head_of was)) a)
