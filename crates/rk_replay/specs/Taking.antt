-- Records that are told to be forged where those that are left have no one next.
use Rattle.std.specs.Prelude.{◌≡◌, ℕ, ◌+◌, ◌<◌, ◌≤◌, List, length, take, slice_index}
use Rattle.std.specs.List.{AllByRecursion as Each}
use Rattle.rk_calls.specs.Keys.{KeyValue}
use Rattle.rk_calls.specs.Talk.{Says}
use Rattle.tr_record.specs.declared.records.Record.{Record}
use Rattle.tr_record.specs.Rec.{rec_at}
use Rattle.tr_matching.specs.Groups.{BeginAlike}
use Rattle.tr_matching.specs.Matching.{AreIn, AreTorn, head_of}
use Rattle.rk_traces.specs.Spoken.{Follows, IsSpoken}
use Rattle.rk_traces.specs.declared.check.CheckErr.{CheckErr}
use Rattle.rk_traces.specs.declared.check.CheckErr.TheVariants.{Forged, NoMemory}
use Rattle.rk_replay.specs.declared.activity.Activity.{Activity}
use Rattle.rk_replay.specs.declared.activity.Activity.TheVariants.{Runs, Replays}
use Rattle.rk_replay.specs.Seats.{left_with}

-- a record is what its command says in its first steps and in what it has next behind them, a step or the exit
abbrev pub IsSpokenAt : (KeyValue → Says) → ℕ → Record → Type 0
IsSpokenAt first at rec = (at < length rec.steps → Follows (first rec.key) (take (at + 1) rec.steps)) × (at ≡ length rec.steps → IsSpoken first rec)

-- of these records the told one is the first that isn't so; want of memory tells nothing
abbrev pub IsFirstForged : (KeyValue → Says) → List Record → ℕ → List ℕ → CheckErr → Type 0
IsFirstForged first old at numbers (Forged rec step) =
    (k : ℕ) × (k < length numbers) × (rec ≡ slice_index numbers k) × Each (λ i. IsSpokenAt first at (rec_at i old)) (take k numbers)
IsFirstForged first old at numbers NoMemory = Unit {0}

-- of those that are left with the first record of a replayed command
abbrev pub TellsFirst : {S : Type 0} → (KeyValue → Says) → List Record → Activity S → CheckErr → Type 0
TellsFirst first old (Runs machine) e = Unit {0}
TellsFirst first old (Replays seat) e = IsFirstForged first old seat.place.at (left_with old seat.rec seat.place.at) e

-- These records, in the order of their numbers, are of one key and have so many first steps in common, and no one next behind them.
pub record AreTornLeft (old : List Record) (at : ℕ) (numbers : List ℕ) : Type 0 where
  pub in_old : AreIn old at numbers
  pub keys : Each (λ i. (rec_at i old).key ≡ (rec_at (head_of numbers) old).key) numbers
  pub alike : BeginAlike old at numbers
  pub ascend : (k : ℕ) → k < length numbers → k ≤ slice_index numbers k
  pub torn : AreTorn old at numbers
