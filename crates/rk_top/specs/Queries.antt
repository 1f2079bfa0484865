-- What is asked of the database alone.
use Rattle.std.specs.Prelude.{◌≡◌, Option, Result, Ok, Err}
use Rattle.rk_base.specs.Text.{Text}
use Rattle.rk_calls.specs.Keys.{KeyValue}
use Rattle.rk_calls.specs.Talk.{Says}
use Rattle.rk_database.specs.Answers.{Forgets, SaysNone, Shows}
use Rattle.rk_database.specs.Texts.{IsChecked, IsTrace, NoCheck, NoTrace}
use Rattle.rk_database.specs.declared.stop.Said.{Said}
use Rattle.rk_database.specs.declared.stop.Said.TheVariants as said
use Rattle.rk_database.specs.declared.stop.QueryErr.{QueryErr}
use Rattle.rk_database.specs.declared.stop.QueryErr.TheVariants as stop
use Rattle.rk_folder.specs.Told.{Held}
use Rattle.rk_request.specs.declared.requests.Request.{Request}
use Rattle.rk_request.specs.declared.requests.Request.TheVariants as request
use Rattle.rk_build.specs.declared.outcome.Outcome.{Outcome}
use Rattle.rk_build.specs.declared.outcome.Outcome.TheVariants as out
use Rattle.rk_build.specs.declared.outcome.StateFile.TheVariants as file

abbrev pub outcome_of_refused : QueryErr → Outcome
outcome_of_refused (stop.Special path) = out.Special path
outcome_of_refused (stop.Damaged damage) = out.Damaged file.Db damage
outcome_of_refused (stop.Forged rec step) = out.Forged rec step
outcome_of_refused stop.ReadFault = out.ReadFault
outcome_of_refused stop.WriteFault = out.WriteFault
outcome_of_refused stop.NoMemory = out.NoMemory

-- done is 0, and that there is no database 1
abbrev pub outcome_of_answer : Result Said QueryErr → Outcome
outcome_of_answer (Ok said.Done) = out.Said 0
outcome_of_answer (Ok said.NoTrace) = out.Said 1
outcome_of_answer (Err e) = outcome_of_refused e

-- the outcome of an answer of which this is so
abbrev pub IsAnswer : Outcome → (Result Said QueryErr → Type 0) → Type 0
IsAnswer outcome P = (answer : Result Said QueryErr) × ((outcome ≡ outcome_of_answer answer) × P answer)

-- what each request of the database alone comes to: a check and a trace leave the folder as it was
abbrev pub Queried : (KeyValue → Says) → Request → Option Held → Option Held → Option Text → Option Text → Outcome → Type 0
Queried first (request.Build steps explain fresh check) told new old_out new_out outcome = Unit {0}
Queried first (request.Gen seed) told new old_out new_out outcome = Unit {0}
Queried first request.Check told new old_out new_out outcome = (new ≡ told) × IsAnswer outcome (Shows (IsChecked first) (NoCheck first) told old_out new_out)
Queried first (request.Trace json) told new old_out new_out outcome = (new ≡ told) × IsAnswer outcome (Shows (IsTrace json) NoTrace told old_out new_out)
Queried first request.Forget told new old_out new_out outcome = IsAnswer outcome (λ answer. Forgets told new answer × SaysNone told old_out new_out answer)
