-- The records of commands under way, and what they have to do with those that are kept.
use Rattle.std.specs.Prelude.{◌≡◌, ◌≢◌, ℕ, ◌≤◌, ◌<◌, Bool, IsTrue, List, [], ◌∷◌, length, take, sum_by, Some, None}
use Rattle.rk_calls.specs.declared.call.Call.{Call}
use Rattle.rk_calls.specs.declared.call.Call.TheVariants.{Launch}
use Rattle.rk_calls.specs.declared.drive.Spoke.TheVariants.{Call as Calls}
use Rattle.tr_record.specs.declared.records.Record.{Record}
use Rattle.tr_record.specs.Places.{places_of}
use Rattle.tr_record.specs.Rec.{rec_at}
use Rattle.tr_matching.specs.declared.cause.Cause.{Cause}
use Rattle.tr_matching.specs.declared.group.Group.{Group}
use Rattle.tr_matching.specs.Earlier.{EarlierRecords}
use Rattle.tr_matching.specs.Left.{IsMatching}
use Rattle.tr_matching.specs.Matching.{AllSay}
use Rattle.rk_traces.specs.declared.active.Active.{Active}
use Rattle.rk_traces.specs.declared.active.Frame.{Frame}
use Rattle.rk_replay.specs.declared.activity.Activity.{Activity}
use Rattle.rk_replay.specs.declared.activity.Activity.TheVariants.{Runs, Replays}
use Rattle.rk_replay.specs.Activities.{IsSeated, KnowsNext}
use Rattle.rk_replay.specs.Ran.{cause_of, IsRecorded}
use Rattle.rk_replay.specs.Seats.{left_with}

-- a record under way has the first steps of those of its key that are left, of which this is the first
pub record IsMatched (old : List Record) (r : Record) (rec at : ℕ) : Type 0 where
  pub others : List ℕ
  pub matching : IsMatching old (places_of r.key old) r.steps (rec ∷ others)
  pub here : rec < length old
  pub key : (rec_at rec old).key ≡ r.key
  pub within : at ≤ length (rec_at rec old).steps
  pub steps : r.steps ≡ take at (rec_at rec old).steps

-- its machine was made for a cause, or it has the first steps of the records that are left
abbrev pub IsLinked : {S : Type 0} → List Record → Record → Activity S → Type 0
IsLinked old r (Runs m) = (c : Cause) × (cause_of old r ≡ Some c)
IsLinked old r (Replays seat) = IsMatched old r seat.rec seat.place.at

-- the same while it waits for the answer to a call
abbrev pub IsAsking : {S : Type 0} → List Record → Record → Call → ℕ → Activity S → Type 0
IsAsking old r call cost (Runs m) = (c : Cause) × (cause_of old r ≡ Some c)
IsAsking old r call cost (Replays seat) =
    IsMatched old r seat.rec seat.place.at × AllSay old seat.place.at (Calls call cost) (left_with old seat.rec seat.place.at)

-- each of them stands above this place
abbrev pub AllOver : {S : Type 0} → ℕ → List (Frame S) → Type 0
AllOver p [] = Unit {0}
AllOver p (f ∷ fs) = (p < f.waiting.place) × AllOver p fs

-- the waiting commands stand at ascending places below this one, and each waits for the one that it launched
abbrev pub AllAsk : {S : Type 0} → List Record → List Record → ℕ → List (Frame (Activity S)) → Type 0
AllAsk old t n [] = Unit {0}
AllAsk old t n (f ∷ fs) =
    IsAsking old (rec_at f.waiting.place t) (Launch f.key f.map) f.cost f.waiting.machine × ((rec_at f.waiting.place t).exit_cost ≡ 0) × (f.waiting.place < n)
    × AllOver f.waiting.place fs × AllAsk old t n fs

-- the command that goes on, and those that wait
pub record Replaying {S : Type 0} (old t : List Record) (m : Active (Activity S)) (fs : List (Frame (Activity S))) : Type 0 where
  pub here : m.place < length t
  pub unended : (rec_at m.place t).exit_cost ≡ 0
  pub linked : IsLinked old (rec_at m.place t) m.machine
  pub asking : AllAsk old t m.place fs

-- what was paid for the calls of waiting commands
abbrev pub pend : {S : Type 0} → List (Frame S) → ℕ
pend fs = sum_by (λ f. f.cost) fs

-- a kept record of its key is alike, if its command didn't run
abbrev pub IsKept : List Record → Record → Type 0
IsKept old rec = cause_of old rec ≡ None → IsRecorded old rec

-- it is the kept record of its number
abbrev pub IsAsKept : List Record → ℕ → Record → Type 0
IsAsKept old i rec = (i < length old) × (rec ≡ rec_at i old)

-- where this is told
abbrev pub IsStillAt : Bool → List Record → ℕ → Record → Type 0
IsStillAt still old i rec = IsTrue still → IsAsKept old i rec

-- no waiting command stands at this place
abbrev pub IsApart : {S : Type 0} → ℕ → List (Frame S) → Type 0
IsApart i [] = Unit {0}
IsApart i (f ∷ fs) = (i ≢ f.waiting.place) × IsApart i fs

-- of each command that has exited, beside the one that goes on and those that wait, this holds of its number and its record
pub record Keeps {S : Type 0} (P : ℕ → Record → Type 0) (t : List Record) (m : Active S) (fs : List (Frame S)) : Type 0 where
  pub each : (i : ℕ) → i < length t → i ≢ m.place → IsApart i fs → P i (rec_at i t)

abbrev pub AllKnow : {S : Type 0} → EarlierRecords → List Group → List (Frame (Activity S)) → Type 0
AllKnow e groups [] = Unit {0}
AllKnow e groups (f ∷ fs) = KnowsNext e groups f.waiting.machine × AllKnow e groups fs

-- the command that goes on and those that wait have the places of the records that are left
pub record AreSeated {S : Type 0} (e : EarlierRecords) (groups : List Group) (m : Activity S) (fs : List (Frame (Activity S))) : Type 0 where
  pub here : IsSeated e groups m
  pub below : AllKnow e groups fs
