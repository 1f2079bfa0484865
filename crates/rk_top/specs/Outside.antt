-- What is outside the call at a moment.
use Rattle.std.specs.Prelude.{◌≡◌, ℕ, Bool, true, Option}
use Rattle.rk_folder.specs.Schedule.{Schedule}
use Rattle.rk_folder.specs.Told.{Held}
use Rattle.rk_build.specs.Outcomes.{BothSinks, Counts, ErrorsCounted, FolderCounts}
use Rattle.rk_build.specs.Telling.{Put, SinkState}
use Rattle.rk_build.specs.declared.outcome.Outcome.{Outcome}

-- whether no call that the folder allows is to be a fault, nor a put to the output or the error text
pub record Steady : Type 0 where
  pub folder : Bool
  pub out : Bool
  pub err : Bool

-- how many names deep the folder is looked at; what it holds, and which of its calls are to fail after how many, where it
-- tells that; how many of its lists and
-- reads were faults, how many of its other calls, and how many calls had no memory; the two sinks; and the turns that
-- commands which ran have paid
pub record Outside : Type 0 where
  pub reach : ℕ
  pub held : Option Held
  pub schedule : Option Schedule
  pub reads : ℕ
  pub writes : ℕ
  pub memory : ℕ
  pub out : SinkState
  pub err : SinkState
  pub steady : Steady
  pub live : ℕ

abbrev pub folder_counts : Outside → FolderCounts
folder_counts it = record { writes = it.writes; memory = it.memory }

-- the counts of faults
abbrev pub counts : Outside → Counts
counts it = record { reads = it.reads; writes = it.writes; puts = it.out.faults; error_puts = it.err.faults }

abbrev pub sinks : Outside → BothSinks
sinks it = record { out = it.out; err = it.err }

-- nothing is to be a fault
pub record IsSteady (it : Outside) : Type 0 where
  pub folder : it.steady.folder ≡ true
  pub out : it.steady.out ≡ true
  pub err : it.steady.err ≡ true

-- once a line is put on the error text
abbrev pub with_line : SinkState → Steady → Outside → Outside
with_line err steady it = record it { err = err; steady = steady }

-- the error text gained nothing but the outcome's own line
pub record GainsLineAlone (before now : SinkState) (outcome : Outcome) : Type 0 where
  pub worked : SinkState
  pub nothing : worked.so_far ≡ before.so_far
  pub counted : ErrorsCounted before worked outcome
  pub line : Put outcome worked now
