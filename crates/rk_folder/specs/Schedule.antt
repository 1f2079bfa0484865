-- Which calls of a folder are to be faults, and which were made.
use Rattle.std.specs.Prelude.{◌≡◌, ◌==◌, ◌⊎◌, ◌++◌, ◌∷◌, [], ℕ, List, Bool, true, false, if◌then◌else◌, Option, Some, None, Result, Ok, Err, IsSome, find, option_map, MatchBool}
use Rattle.rk_base.specs.Text.{Text}
use Rattle.rk_folder.specs.Counts.{one_more}
use Rattle.rk_folder.specs.Told.{Held, with_standing}
use Rattle.rk_folder.specs.declared.folder.Standing.TheVariants.{File}
use Rattle.rk_folder.specs.declared.folder.FolderCall.{FolderCall}
use Rattle.rk_folder.specs.declared.folder.FolderCall.TheVariants as asks
use Rattle.rk_folder.specs.declared.folder.FolderErr.{FolderErr}
use Rattle.rk_folder.specs.declared.folder.FolderErr.TheVariants.{Failed, NoMemory}

-- a call that is to be a fault: its number, from 1 on, and the bytes that it leaves in its file if it
-- is a write, or none where it leaves all as it was
abbrev pub Failing : Type 0
Failing = ℕ × Option (List ℕ)

-- a call that is to change what a folder holds
abbrev pub is_change : FolderCall → Bool
is_change (asks.List dir) = false
is_change (asks.Read file) = false
is_change other = true

-- a call that was made, and whether it is kept; where it had no memory it may not be
abbrev pub Made : Type 0
Made = FolderCall × Bool

-- the calls that are to be faults, how many calls there were, and those that are kept, in their order
pub record Schedule : Type 0 where
  pub failing : List Failing
  pub calls : ℕ
  pub asked : List FolderCall

-- how the call of this number is to fail: the first that has its number counts
abbrev pub failing_at : List Failing → ℕ → Option Failing
failing_at failing call = find (λ it. it.0 == call) failing

abbrev pub next_fault : Schedule → Option Failing
next_fault schedule = failing_at schedule.failing (one_more schedule.calls)

abbrev pub after_call : Made → Schedule → Schedule
after_call made schedule = record schedule { calls = one_more schedule.calls; asked = if made.1 then schedule.asked ++ made.0 ∷ [] else schedule.asked }

-- once these calls were made
abbrev pub after_calls : List Made → Schedule → Schedule
after_calls [] schedule = schedule
after_calls (made ∷ more) schedule = after_calls more (after_call made schedule)

-- some of these calls, each once at most and in their order
abbrev pub AreSomeOf : List FolderCall → List Made → Type 0
AreSomeOf [] made = made ≡ []
AreSomeOf (call ∷ more) made = AreSomeOf more made ⊎ ((kept : Bool) × (rest : List Made) × (made ≡ (call, kept) ∷ rest) × AreSomeOf more rest)

-- where a folder tells its schedule, it was asked for some of these calls and for no other, each once at most and in their
-- order; and what is to fail stays
abbrev pub MakesCalls : List FolderCall → Option Schedule → Option Schedule → Type 0
MakesCalls all before now = (made : List Made) × AreSomeOf all made × (now ≡ option_map (after_calls made) before)

-- a call was made, and is kept unless it had no memory
abbrev pub IsMade : {T : Type 0} → FolderCall → Option Schedule → Option Schedule → Result T FolderErr → Type 0
IsMade call before now (Ok done) = now ≡ option_map (after_call (call, true)) before
IsMade call before now (Err Failed) = now ≡ option_map (after_call (call, true)) before
IsMade call before now (Err NoMemory) = (now ≡ option_map (after_call (call, true)) before) ⊎ (now ≡ option_map (after_call (call, false)) before)

-- a folder in memory keeps a call behind those before, where there is memory for it
abbrev pub Keeps : {T E : Type 0} → FolderCall → List FolderCall → List FolderCall → Result T E → Type 0
Keeps call old new (Ok it) = new ≡ old ++ call ∷ []
Keeps call old new (Err e) = new ≡ old

-- a call that is allowed is a fault where one is scheduled, and only there
abbrev pub GoesAsScheduled : {T : Type 0} → Schedule → Bool → Result T FolderErr → Type 0
GoesAsScheduled schedule allowed (Ok done) = next_fault schedule ≡ None
GoesAsScheduled schedule allowed (Err Failed) = MatchBool allowed (IsSome (next_fault schedule)) (Unit {0})
GoesAsScheduled schedule allowed (Err NoMemory) = Unit {0}

-- where a folder tells its schedule, each call goes by it, and is counted and kept
abbrev pub OnSchedule : {T : Type 0} → FolderCall → Option Schedule → Option Schedule → Bool → Result T FolderErr → Type 0
OnSchedule call None now allowed result = now ≡ None
OnSchedule call (Some before) now allowed result = IsMade call (Some before) now result × GoesAsScheduled before allowed result

abbrev pub damaged : Text → Option (List ℕ) → Option Held → Option Held
damaged path None old = old
damaged path (Some left) old = option_map (with_standing path (File left)) old

abbrev pub LeavesFor : Text → Option Failing → Option Held → Option Held → Type 0
LeavesFor path None old new = Unit {0}
LeavesFor path (Some failing) old new = new ≡ damaged path failing.1 old

-- a write that is a fault leaves in its file what is scheduled
abbrev pub Leaves : {T : Type 0} → Text → Option Schedule → Bool → Option Held → Option Held → Result T FolderErr → Type 0
Leaves path None allowed old new result = Unit {0}
Leaves path (Some schedule) allowed old new (Ok done) = Unit {0}
Leaves path (Some schedule) allowed old new (Err Failed) = MatchBool allowed (LeavesFor path (next_fault schedule) old new) (new ≡ old)
Leaves path (Some schedule) allowed old new (Err NoMemory) = Unit {0}
