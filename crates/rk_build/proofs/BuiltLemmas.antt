-- What is said of how a build ended is said of its outcome.
use Rattle.std.proofs.Common.{◌≢◌, ℕ, length, Option, Result, Ok, Err, IfOk}
use Rattle.rk_build.specs.Outcomes.{outcome_of, IfEnded, IsNoFault, Started}
use Rattle.rk_calls.specs.Keys.{KeyValue}
use Rattle.rk_calls.specs.Talk.{Says}
use Rattle.rk_folder.specs.Told.{Held}
use Rattle.rk_request.specs.declared.requests.Request.{Request}
use Rattle.rk_build.specs.Stages.{StartsSo}
use Rattle.rk_build.specs.Texts.{IsNoFault as IsNoStop}
use Rattle.rk_build.specs.declared.work.Ended.{Ended}
use Rattle.rk_build.specs.declared.outcome.Outcome.TheVariants as out
use Rattle.rk_build.specs.declared.stop.Refusal.TheVariants as refusal
use Rattle.rk_build.specs.declared.stop.BuildErr.{BuildErr}
use Rattle.rk_build.specs.declared.stop.BuildErr.TheVariants as stop

pub built-ended : (P : ℕ → ℕ → ℕ → Type 0) (built : Result Ended BuildErr) → IfOk built (λ e. P e.status e.launched (length e.ran)) → IfEnded (outcome_of built) P
built-ended P (Ok e) h = h
built-ended P (Err (stop.Refused (refusal.Special path))) h = tt
built-ended P (Err (stop.Refused (refusal.Damaged file damage))) h = tt
built-ended P (Err (stop.Forged rec step)) h = tt
built-ended P (Err stop.Spent) h = tt
built-ended P (Err stop.ReadFault) h = tt
built-ended P (Err stop.WriteFault) h = tt
built-ended P (Err stop.NoMemory) h = tt

pub built-no-fault : (built : Result Ended BuildErr) → IsNoStop built → IsNoFault (outcome_of built)
built-no-fault (Ok e) h = tt
built-no-fault (Err (stop.Refused (refusal.Special path))) h = tt
built-no-fault (Err (stop.Refused (refusal.Damaged file damage))) h = tt
built-no-fault (Err (stop.Forged rec step)) h = tt
built-no-fault (Err stop.Spent) h = tt
built-no-fault (Err stop.ReadFault) h = absurd h
built-no-fault (Err stop.WriteFault) h = absurd h
built-no-fault (Err stop.NoMemory) h = tt

pub built-started : (first : KeyValue → Says) (request : Request) (told : Option Held) (before now : ℕ) (built : Result Ended BuildErr) → StartsSo (λ e. length e.ran) first request told before now built → Started first request told before now (outcome_of built)
built-started first request told before now (Ok e) h = h
built-started first request told before now (Err e) h = h

pub built-asked : (built : Result Ended BuildErr) → outcome_of built ≢ out.Usage
built-asked (Ok e) same = cc
built-asked (Err (stop.Refused (refusal.Special path))) same = cc
built-asked (Err (stop.Refused (refusal.Damaged file damage))) same = cc
built-asked (Err (stop.Forged rec step)) same = cc
built-asked (Err stop.Spent) same = cc
built-asked (Err stop.ReadFault) same = cc
built-asked (Err stop.WriteFault) same = cc
built-asked (Err stop.NoMemory) same = cc
