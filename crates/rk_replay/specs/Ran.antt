-- Which commands ran, and why.
use Rattle.std.specs.Prelude.{◌≡◌, ℕ, ◌<◌, List, length, Option, Some, None, filter_map, slice_index, sum_by}
use Rattle.tr_record.specs.declared.records.Record.{Record}
use Rattle.tr_record.specs.Contents.{Recorded}
use Rattle.tr_record.specs.Places.{places_of}
use Rattle.tr_record.specs.Rec.{rec_at}
use Rattle.tr_matching.specs.declared.cause.Cause.{Cause}
use Rattle.tr_matching.specs.Causes.{cause_among}
use Rattle.tr_matching.specs.Left.{AreTalkAlike}
use Rattle.rk_traces.specs.Own.{own}
use Rattle.rk_replay.specs.declared.ran.Ran.{Ran}

-- Why the command of a record ran, if it did: no kept record has its key; or the step is the greatest of the first ones that were
-- answered otherwise than the records of its key say, with the answer of the first record that differs there.
unfoldable pub cause_of : List Record → Record → Option Cause
cause_of old rec = cause_among old (places_of rec.key old) rec.steps

-- a kept record of its key is alike but for the ordinal
abbrev pub IsRecorded : List Record → Record → Type 0
IsRecorded old rec = (i : ℕ) × (i < length old) × ((rec_at i old).key ≡ rec.key) × AreTalkAlike (rec_at i old) rec

-- each record whose command didn't run is recorded
abbrev pub AreKept : List Record → List Record → Type 0
AreKept old table = (i : ℕ) → i < length table → cause_of old (rec_at i table) ≡ None → IsRecorded old (rec_at i table)

-- each record is the kept one of its number
abbrev pub AreStill : List Record → List Record → Type 0
AreStill old table = (i : ℕ) → i < length table → (i < length old) × (rec_at i table ≡ rec_at i old)

-- records with the same steps have one number of their steps
abbrev pub HaveOneNumber : Recorded → List Record → Type 0
HaveOneNumber contents old =
    (i j : ℕ) → i < length old → j < length old → (rec_at i old).steps ≡ (rec_at j old).steps
    → slice_index contents.heads i ≡ slice_index contents.heads j

abbrev pub ran_for : Record → Option Cause → Option Ran
ran_for rec None = None
ran_for rec (Some cause) = Some (record { key = rec.key; ordinal = rec.ordinal; cause = cause })

-- the records of a table whose commands ran, in launch order, each with its cause
unfoldable pub ran_of : List Record → List Record → List Ran
ran_of old table = filter_map (λ rec. ran_for rec (cause_of old rec)) table

-- how many it is: one that ran, or none
abbrev pub ran_one : Option Cause → ℕ
ran_one None = 0
ran_one (Some cause) = 1

-- how many commands ran
abbrev pub ran_count : List Record → List Record → ℕ
ran_count old table = sum_by (λ rec. ran_one (cause_of old rec)) table

-- what a command paid, where it ran
abbrev pub own_for : Record → Option Cause → ℕ
own_for rec None = 0
own_for rec (Some cause) = own rec

-- what the commands paid that ran
unfoldable pub ran_total : List Record → List Record → ℕ
ran_total old table = sum_by (λ rec. own_for rec (cause_of old rec)) table
