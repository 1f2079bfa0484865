-- What telling an outcome leaves.
use Rattle.std.specs.Prelude.{◌≡◌, ◌≤◌, ◌⊎◌, ℕ, Option, Result, Ok, Err}
use Rattle.rk_base.specs.Text.{Text}
use Rattle.rk_folder.specs.Counts.{Rose}
use Rattle.rk_folder.specs.Sinks.{with_bytes}
use Rattle.rk_build.specs.Lines.{line_of}
use Rattle.rk_build.specs.Texts.{Front}
use Rattle.rk_build.specs.declared.outcome.Outcome.{Outcome}
use Rattle.rk_build.specs.declared.outcome.Outcome.TheVariants as out
use Rattle.rk_build.specs.declared.stop.BuildErr.{BuildErr}
use Rattle.rk_build.specs.declared.stop.BuildErr.TheVariants as stop

-- a sink at a moment: its bytes, where it tells them, how many puts were faults, and how many had no memory
pub record SinkState : Type 0 where
  pub so_far : Option Text
  pub faults : ℕ
  pub memory : ℕ

-- the whole text was put
pub record IsPut (text : Text) (old new : SinkState) : Type 0 where
  pub whole : new.so_far ≡ with_bytes text old.so_far
  pub faults : new.faults ≡ old.faults
  pub memory : new.memory ≡ old.memory

-- the put failed, or had no memory, and a front of the text went out
pub record IsCut (text : Text) (old new : SinkState) : Type 0 where
  pub front : Front text old.so_far new.so_far
  pub faults : old.faults ≤ new.faults
  pub memory : old.memory ≤ new.memory
  pub cause : Rose old.faults new.faults ⊎ Rose old.memory new.memory

abbrev pub PutsLine : Text → SinkState → SinkState → Type 0
PutsLine line old new = IsPut line old new ⊎ IsCut line old new

-- What putting a text leaves: all of it went out at Ok; else the put failed or had no memory.
abbrev pub PutSo : {T : Type 0} → Text → SinkState → SinkState → Result T BuildErr → Type 0
PutSo text old new (Ok it) = IsPut text old new
PutSo text old new (Err stop.WriteFault) = IsCut text old new
PutSo text old new (Err stop.NoMemory) = IsCut text old new
PutSo text old new (Err other) = ⊥

-- What putting the run's output leaves, which is put first: all of it went out at Ok; else it was put, or that put failed or
-- had no memory.
abbrev pub PutsOutput : {T : Type 0} → Text → SinkState → SinkState → Result T BuildErr → Type 0
PutsOutput text old new (Ok it) = IsPut text old new
PutsOutput text old new (Err stop.WriteFault) = PutsLine text old new
PutsOutput text old new (Err stop.NoMemory) = PutsLine text old new
PutsOutput text old new (Err other) = ⊥

-- What putting the run's error text leaves: all of it went out at Ok; else nothing was put, or the put failed or had no memory.
abbrev pub PutsErrors : {T : Type 0} → Text → SinkState → SinkState → Result T BuildErr → Type 0
PutsErrors text old new (Ok it) = IsPut text old new
PutsErrors text old new (Err stop.WriteFault) = (new ≡ old) ⊎ IsCut text old new
PutsErrors text old new (Err stop.NoMemory) = (new ≡ old) ⊎ IsCut text old new
PutsErrors text old new (Err other) = ⊥

-- Of both: the error text is put once all of the output went out.
abbrev pub PutsInOrder : Text → SinkState → SinkState → SinkState → SinkState → Type 0
PutsInOrder output old new err_old err_new = (err_new ≡ err_old) ⊎ IsPut output old new

-- the outcome's own line; over an end and an answer nothing is put
abbrev pub Put : Outcome → SinkState → SinkState → Type 0
Put (out.Ended status launched ran) old new = new ≡ old
Put (out.Said status) old new = new ≡ old
Put told old new = PutsLine (line_of told) old new

-- its line names a path, a file or a record
abbrev pub IsNamed : Outcome → Type 0
IsNamed (out.Special path) = Unit {0}
IsNamed (out.Damaged file damage) = Unit {0}
IsNamed (out.Forged rec step) = Unit {0}
IsNamed other = ⊥

-- the same outcome, or that there was no memory for a line that names something
abbrev pub IsTold : Outcome → Outcome → Type 0
IsTold outcome told = (told ≡ outcome) ⊎ (IsNamed outcome × (told ≡ out.NoMemory))

abbrev pub Tells : Outcome → Outcome → SinkState → SinkState → Type 0
Tells outcome told old new = IsTold outcome told × Put told old new
