-- Why a build stops.
use Rattle.std.proofs.Common.{List, subst, sym}
use Rattle.rk_base.specs.declared.memory.NoMemory.{NoMemory}
use Rattle.rk_calls.specs.Talk.{Says}
use Rattle.rk_calls.specs.Keys.{KeyValue}
use Rattle.tr_record.specs.declared.records.Record.{Record}
use Rattle.rk_traces.specs.Checked.{IsTold}
use Rattle.rk_traces.specs.declared.check.CheckErr.{CheckErr}
use Rattle.rk_traces.specs.declared.check.CheckErr.TheVariants as check
use Rattle.rk_replay.specs.declared.stop.ReplayErr.{ReplayErr}
use Rattle.rk_replay.specs.declared.stop.ReplayErr.TheVariants.{Spent, Forged, Stopped}
use Rattle.rk_replay.specs.Stops.{Stops, StaysAt, IsForged, IsWant, IsHandedOn}

-- what holds then

pub stays-any : {S : Type 0} (stays : Type 0) (stop : ReplayErr S) → stays → StaysAt stays stop
stays-any stays Spent h = h
stays-any stays (Forged rec step) h = h
stays-any stays (Stopped reason) h = tt

pub stays-by : {S : Type 0} (before stays : Type 0) (stop : ReplayErr S) → (before → stays) → StaysAt before stop → StaysAt stays stop
stays-by before stays Spent f h = f h
stays-by before stays (Forged rec step) f h = f h
stays-by before stays (Stopped reason) f h = tt

-- what is told of a table is a wrong step of a record
pub told-forged : (first : KeyValue → Says) (old : List Record) (e : CheckErr) → IsTold first old e → IsForged first old e
told-forged first old (check.Forged rec step) h = (h.here, h.wrong)
told-forged first old check.NoMemory h = tt

module _ {S : Type 0} (first : KeyValue → Says) (old : List Record) (spent : Type 0) (stopped : S → Type 0) where
  -- where want of memory may stop it
  module _ (gives : NoMemory → S → Type 0) (memory : (want : NoMemory) (reason : S) → gives want reason → stopped reason) where
    pub stops-want : (stop : ReplayErr S) → IsWant gives stop → Stops first old spent stopped stop
    stops-want Spent h = absurd h
    stops-want (Forged rec step) h = absurd h
    stops-want (Stopped reason) h = memory h.0 reason h.1

    pub stops-forged : (e : CheckErr) (stop : ReplayErr S) → IsForged first old e → IsHandedOn gives e stop → Stops first old spent stopped stop
    stops-forged (check.Forged rec step) stop h e = subst (Stops first old spent stopped) (sym e) h
    stops-forged check.NoMemory stop h e = stops-want stop e

  -- it isn't spent, and what holds of a reason holds still
  pub stops-since : (before : S → Type 0) → ((reason : S) → before reason → stopped reason) → (stop : ReplayErr S) → Stops first old ⊥ before stop → Stops first old spent stopped stop
  stops-since before since Spent h = absurd h.1
  stops-since before since (Forged rec step) h = h
  stops-since before since (Stopped reason) h = since reason h
