-- How many machines a build has started when it stops.
use Rattle.std.specs.Prelude.{◌≡◌, ◌≤◌, ◌+◌, ℕ, List, length}
use Rattle.tr_record.specs.declared.records.Record.{Record}
use Rattle.rk_traces.specs.Started.{started, StartsSome}
use Rattle.rk_traces.specs.declared.check.CheckErr.{CheckErr}
use Rattle.rk_traces.specs.declared.check.CheckErr.TheVariants as check
use Rattle.rk_replay.specs.declared.stop.ReplayErr.{ReplayErr}
use Rattle.rk_replay.specs.declared.stop.ReplayErr.TheVariants.{Spent, Forged, Stopped}

-- one machine for a kept record, or none
pub record StartsFor (old : List Record) (before now : ℕ) : Type 0 where
  pub many : ℕ
  pub one : many ≤ 1
  pub of_old : many ≤ length old
  pub now_is : now ≡ started many before

-- one machine for each record that was looked at, up to the told one
abbrev pub StartsTold : List Record → ℕ → ℕ → CheckErr → Type 0
StartsTold old before now (check.Forged rec step) = StartsSome (rec + 1) before now
StartsTold old before now check.NoMemory = StartsSome (length old) before now

-- One for each command that ran so far: the first one, and no more than turns were paid, since each launch costs one; and then
-- one for each record that was looked at.
pub record StartsRan (paid looked before now : ℕ) : Type 0 where
  pub ran : ℕ
  pub few : ran ≤ paid + 1
  pub now_is : now ≡ started looked (started ran before)

-- the same, where no more than so many records were looked at
pub record StartsUpTo (paid most before now : ℕ) : Type 0 where
  pub looked : ℕ
  pub within : looked ≤ most
  pub starts : StartsRan paid looked before now

-- Where the budget is spent, each kept record was looked at; where one is forged, those up to it at most.
abbrev pub StartsStopped : {S : Type 0} → List Record → ℕ → ℕ → ℕ → ReplayErr S → Type 0
StartsStopped old paid before now Spent = StartsRan paid (length old) before now
StartsStopped old paid before now (Forged rec step) = StartsUpTo paid (rec + 1) before now
StartsStopped old paid before now (Stopped reason) = StartsUpTo paid (length old) before now
