-- A sealed list of calls is finished before anything else.
use Rattle.std.specs.Prelude.{◌≡◌, ◌⊎◌, List, Bool, true, false, Option, Some, None, IfSome, Result, Ok, Err}
use Rattle.rk_base.specs.Text.{Text}
use Rattle.rk_folder.specs.Counts.{Rose}
use Rattle.rk_folder.specs.Schedule.{MakesCalls}
use Rattle.rk_install.specs.Recovery.{IsRecovered, RecoversTold, seal_looks, sealed_in}
use Rattle.rk_install.specs.declared.fault.RecoverErr.{RecoverErr}
use Rattle.rk_install.specs.declared.fault.RecoverErr.TheVariants as recovery
use Rattle.rk_request.specs.Asked.{request_of}
use Rattle.rk_request.specs.declared.requests.Request.{Request}
use Rattle.rk_request.specs.declared.requests.Request.TheVariants as asked
use Rattle.rk_build.specs.Outcomes.{Counted, Faults, IsNoFault, NoneRose}
use Rattle.rk_build.specs.Telling.{IsTold}
use Rattle.rk_build.specs.declared.outcome.Outcome.{Outcome}
use Rattle.rk_build.specs.declared.outcome.Outcome.TheVariants as out
use Rattle.rk_build.specs.declared.outcome.StateFile.TheVariants as file
use Rattle.rk_top.specs.Outside.{GainsLineAlone, IsSteady, Outside, counts}
use Rattle.rk_top.specs.Serves.{Serves}

-- a made workload leaves the folder alone
abbrev pub is_of_folder : Request → Bool
is_of_folder (asked.Build steps explain fresh check) = true
is_of_folder asked.Check = true
is_of_folder (asked.Trace json) = true
is_of_folder asked.Forget = true
is_of_folder (asked.Gen seed) = false

abbrev pub asks_folder : Option Request → Bool
asks_folder None = false
asks_folder (Some request) = is_of_folder request

-- how finishing it ended: an error, or none
abbrev pub ended_so : Option RecoverErr → Result (Unit {0}) RecoverErr
ended_so None = Ok tt
ended_so (Some err) = Err err

abbrev pub outcome_of_recovery : RecoverErr → Outcome
outcome_of_recovery (recovery.Damaged damage) = out.Damaged file.Install damage
outcome_of_recovery recovery.ReadFault = out.ReadFault
outcome_of_recovery recovery.WriteFault = out.WriteFault
outcome_of_recovery recovery.NoMemory = out.NoMemory

-- What comes first of a request, which is of the folder or isn't: a sealed list that stands there was finished, and its seal
-- taken away. No count rose, and nothing was put or paid. Where no list stands, the root and `.rkr` were listed at most.
pub record Precedes (of_folder : Bool) (before mid : Outside) : Type 0 where
  pub finished : of_folder ≡ true → IfSome before.held (λ held. IsRecovered (sealed_in held) held mid.held)
  -- so none stands then
  pub none_sealed : of_folder ≡ true → IfSome before.held (λ was. IfSome mid.held (λ held. sealed_in held ≡ None))
  pub untouched : of_folder ≡ false → (mid.held ≡ before.held) × (mid.schedule ≡ before.schedule)
  pub looks : IfSome before.held (λ held. sealed_in held ≡ None → MakesCalls seal_looks before.schedule mid.schedule)
  pub none_rose : NoneRose (counts before) (counts mid)
  pub memory : mid.memory ≡ before.memory
  pub sinks : (mid.out ≡ before.out) × (mid.err ≡ before.err)
  pub steady : (mid.steady.folder ≡ before.steady.folder) × (mid.steady.out ≡ before.steady.out) × (mid.steady.err ≡ before.steady.err)
  pub live : mid.live ≡ before.live

-- Or that stopped, before the outcome's line: the list is damaged, a call was a fault, or there was no memory. Some of the list's
-- calls were made, if it isn't damaged, and it still stands. Nothing was put or paid.
pub record StopsFirst (of_folder : Bool) (before now : Outside) (outcome : Outcome) : Type 0 where
  pub asked : of_folder ≡ true
  pub err : RecoverErr
  pub is : outcome ≡ outcome_of_recovery err
  pub folder : RecoversTold {T = Unit {0}} before.held now.held (Err err)
  pub sinks : (now.out ≡ before.out) × (now.err ≡ before.err)
  pub live : now.live ≡ before.live
  pub counted : Counted (counts before) (counts now) outcome
  pub write_fault : outcome ≡ out.WriteFault → Rose before.writes now.writes
  pub steady : IsSteady before → (now.steady.err ≡ true) × IsNoFault outcome

-- A sealed list couldn't be finished, and that is told.
pub record Halts (words : List Text) (before now : Outside) (outcome : Outcome) : Type 0 where
  pub asked : asks_folder (request_of words) ≡ true
  pub err : RecoverErr
  -- Damaged only of the list (`Recovers` of rk_install), with its damage.
  pub told : IsTold (outcome_of_recovery err) outcome
  pub folder : RecoversTold {T = Unit {0}} before.held now.held (Err err)
  pub output : now.out ≡ before.out
  pub live : now.live ≡ before.live
  pub line : GainsLineAlone before.err now.err outcome
  -- A fault is told only where a count for it rose in this call, and none over a folder and sinks that are steady.
  pub read_fault : outcome ≡ out.ReadFault → Rose before.reads now.reads
  pub write_fault : outcome ≡ out.WriteFault → Rose before.writes now.writes
  pub faults : Faults (counts before) (counts now) outcome
  pub steady : IsSteady before → IsNoFault outcome × NoneRose (counts before) (counts now)

-- What the whole call does: of a request of the folder a sealed list that stands is finished first, and from there it does what
-- `Serves` says; or that stopped.
abbrev pub ServesAfter : List Text → Outside → Outside → Outcome → Type 0
ServesAfter words before now outcome =
    ((mid : Outside) × (Precedes (asks_folder (request_of words)) before mid × Serves words mid now outcome)) ⊎ Halts words before now outcome
