-- What is noted of why commands run, as it shows.
use Rattle.std.specs.Prelude.{◌≡◌, ℕ, ◌+◌, ◌<◌, List, length, slice_set, slice_index_or, Option, Some, None}
use Rattle.rk_calls.specs.declared.answer.Answer.{Answer}
use Rattle.tr_record.specs.declared.records.Record.{Record}
use Rattle.tr_record.specs.Rec.{rec_at}
use Rattle.rk_traces.specs.Spoken.{step_at}
use Rattle.rk_replay.specs.declared.activity.Activity.{Activity}
use Rattle.rk_replay.specs.declared.activity.Activity.TheVariants.{Runs, Replays}
use Rattle.tr_matching.specs.declared.cause.Cause.{Cause}
use Rattle.tr_matching.specs.declared.cause.Cause.TheVariants.{NoRecord, Differs}
use Rattle.rk_replay.specs.Ran.{cause_of}

-- what is noted of the command at a place
abbrev pub cause_at : ℕ → List (Option Cause) → Option Cause
cause_at i causes = slice_index_or causes i None

-- of each record it is noted why its command ran, if it did
pub record AreCauses (old table : List Record) (causes : List (Option Cause)) : Type 0 where
  pub many : length causes ≡ length table
  pub each : (i : ℕ) → i < length table → cause_at i causes ≡ cause_of old (rec_at i table)

-- of a command that is launched: its key has no record, or it is replayed
abbrev pub launch_cause : {S : Type 0} → Activity S → Option Cause
launch_cause (Runs machine) = Some NoRecord
launch_cause (Replays seat) = None

-- why the records of a command are given up as it takes an answer, if they are: the step and both answers, the first record's and the one
-- that was seen
abbrev pub cause_taken : {S : Type 0} → List Record → Activity S → Answer → Activity S → Option Cause
cause_taken old (Runs machine) a now = None
cause_taken old (Replays seat) a (Runs machine) = Some (Differs (seat.place.at + 1) (step_at seat.place.at (rec_at seat.rec old).steps).answer a)
cause_taken old (Replays seat) a (Replays now) = None

-- a cause is noted of the command at a place, if there is one
abbrev pub with_cause : ℕ → Option Cause → List (Option Cause) → List (Option Cause)
with_cause place None causes = causes
with_cause place (Some cause) causes = slice_set causes place (Some cause)

-- of the command at a place as it takes an answer
abbrev pub noted : {S : Type 0} → List Record → ℕ → Activity S → Answer → Activity S → List (Option Cause) → List (Option Cause)
noted old place was a now causes = with_cause place (cause_taken old was a now) causes
