-- Commands that run or are replayed.
use Rattle.std.specs.Prelude.{◌≡◌, ◌↔◌, ℕ, ◌<◌, Bool, IsTrue, List, [], length, take}
use Rattle.rk_calls.specs.declared.answer.Answer.{Answer}
use Rattle.rk_calls.specs.declared.drive.Spoke.{Spoke}
use Rattle.rk_calls.specs.declared.drive.Spoke.TheVariants.{Call as Calls, Exit as Exits, Short}
use Rattle.rk_calls.specs.Talk.{Says}
use Rattle.rk_calls.specs.Saying.{goes_on}
use Rattle.rk_calls.specs.Keys.{KeyValue}
use Rattle.tr_record.specs.declared.records.Record.{Record}
use Rattle.tr_record.specs.Costs.{steps_cost}
use Rattle.tr_record.specs.Places.{places_of}
use Rattle.tr_record.specs.Rec.{rec_at}
use Rattle.tr_matching.specs.declared.group.Group.{Group}
use Rattle.tr_matching.specs.Earlier.{EarlierRecords, IsRest}
use Rattle.tr_matching.specs.Groups.{IsKnown, group_at}
use Rattle.tr_matching.specs.Matching.{AllSay}
use Rattle.rk_traces.specs.Spoken.{follow, step_at}
use Rattle.rk_replay.specs.declared.activity.Activity.{Activity}
use Rattle.rk_replay.specs.declared.activity.Activity.TheVariants.{Runs, Replays}
use Rattle.rk_replay.specs.Seats.{GoesFurther, IsFirstSeat, IsSeat, answered_with, left_with}

-- what it says from here on, once it is given this answer: a replayed command stands where its machine would
abbrev pub stands : {S : Type 0} → (S → Answer → Says) → (KeyValue → Says) → List Record → Activity S → Answer → Says
stands talk first old (Runs machine) a = talk machine a
stands talk first old (Replays seat) a = follow (first (rec_at seat.rec old).key) (take seat.place.at (rec_at seat.rec old).steps)

-- what it says by the answer, while it waits for one
abbrev pub waits : {S : Type 0} → (S → Answer → Says) → (KeyValue → Says) → List Record → Activity S → Answer → Says
waits talk first old (Runs machine) a = talk machine a
waits talk first old (Replays seat) a =
    goes_on (step_at seat.place.at (rec_at seat.rec old).steps).cost
    (follow (first (rec_at seat.rec old).key) (take seat.place.at (rec_at seat.rec old).steps)) a

-- it waits for an answer
abbrev pub IsWaiting : {S : Type 0} → List Record → Activity S → Type 0
IsWaiting old (Runs machine) = Unit {0}
IsWaiting old (Replays seat) = (seat.rec < length old) × (seat.place.at < length (rec_at seat.rec old).steps)

-- where it is replayed, its place is that of the records that are left
abbrev pub IsSeated : {S : Type 0} → EarlierRecords → List Group → Activity S → Type 0
IsSeated e groups (Runs machine) = Unit {0}
IsSeated e groups (Replays seat) = IsSeat e groups seat

-- and what these have next is known to be one
abbrev pub KnowsNext : {S : Type 0} → EarlierRecords → List Group → Activity S → Type 0
KnowsNext e groups (Runs machine) = Unit {0}
KnowsNext e groups (Replays seat) = IsSeat e groups seat × IsKnown seat.place.at (group_at seat.place.group groups)

-- the number that it has is that of the rest of the first record that is left
abbrev pub IsAtRest : {S : Type 0} → EarlierRecords → Activity S → Type 0
IsAtRest e (Runs machine) = Unit {0}
IsAtRest e (Replays seat) = IsRest e seat.rec seat.place.at seat.place.rest

-- where it is replayed, all steps of the first record that is left stand in this one
abbrev pub IsWhole : {S : Type 0} → List Record → Record → Activity S → Type 0
IsWhole old r (Runs machine) = Unit {0}
IsWhole old r (Replays seat) = (seat.rec < length old) × (r.steps ≡ (rec_at seat.rec old).steps)

-- it was launched so: it begins before all records of its key, and where there is none a machine was made
abbrev pub IsLaunched : {S : Type 0} → List Record → KeyValue → Activity S → Type 0
IsLaunched old key (Runs machine) = places_of key old ≡ []
IsLaunched old key (Replays seat) = IsFirstSeat old key seat

-- how many machines were made for it when it was launched
abbrev pub made : {S : Type 0} → Activity S → ℕ
made (Runs machine) = 1
made (Replays seat) = 0

abbrev pub IsRunning : {S : Type 0} → Activity S → Type 0
IsRunning (Runs machine) = Unit {0}
IsRunning (Replays seat) = ⊥

-- what is asked is what all records have next that are left with this one
abbrev pub IsNext : List Record → ℕ → ℕ → Spoke → Type 0
IsNext old rec at (Calls call cost) = AllSay old at (Calls call cost) (left_with old rec at)
IsNext old rec at (Exits status cost) = AllSay old at (Exits status cost) (left_with old rec at)
IsNext old rec at Short = Unit {0}

-- as it speaks, its machine runs on, or its place stays
abbrev pub Speaks_on : {S : Type 0} → List Record → Activity S → Activity S → Spoke → Type 0
Speaks_on old (Runs machine) now spoke = IsRunning now
Speaks_on old (Replays seat) now spoke = (now ≡ Replays seat) × IsNext old seat.rec seat.place.at spoke

-- as it takes an answer, its machine stays; it is replayed on with the records that were answered so, and where none was these are
-- given up for a machine
abbrev pub Takes : {S : Type 0} → List Record → Activity S → Answer → Activity S → Type 0
Takes old (Runs machine) a now = now ≡ Runs machine
Takes old (Replays seat) a (Runs machine) = answered_with old seat a ≡ []
Takes old (Replays seat) a (Replays now) = GoesFurther old seat a now

-- the step of the first record that is left is answered as recorded exactly where this says so
abbrev pub IsAlike : {S : Type 0} → List Record → Activity S → Answer → Bool → Type 0
IsAlike old (Runs machine) a alike = Unit {0}
IsAlike old (Replays seat) a alike = IsTrue alike ↔ ((step_at seat.place.at (rec_at seat.rec old).steps).answer ≡ a)

-- how many machines were made for it as it took an answer
abbrev pub given_up : {S : Type 0} → Activity S → Activity S → ℕ
given_up (Runs machine) now = 0
given_up (Replays seat) now = made now

-- what a command paid so far that a machine was made for
abbrev pub so_far : {S : Type 0} → Activity S → Record → ℕ
so_far (Runs machine) rec = steps_cost rec.steps
so_far (Replays seat) rec = 0

-- what is counted as it takes an answer: the step's cost where a machine ran, and all so far where the records are
-- given up
abbrev pub counted : {S : Type 0} → Activity S → Activity S → ℕ → Record → ℕ
counted (Runs machine) now cost rec = cost
counted (Replays seat) now cost rec = so_far now rec

-- what is counted of a cost that it pays: all, where its machine runs
abbrev pub live_cost : {S : Type 0} → Activity S → ℕ → ℕ
live_cost (Runs machine) cost = cost
live_cost (Replays seat) cost = 0
