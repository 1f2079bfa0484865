-- Records that the command of their key says.
use Rattle.std.specs.Prelude.{◌≡◌, ◌≢◌, ℕ, ◌+◌, ◌<◌, ◌⊎◌, List, [], ◌∷◌, length, take, slice_index_or, true}
use Rattle.rk_calls.specs.declared.call.Call.TheVariants.{Read}
use Rattle.rk_calls.specs.declared.answer.Answer.TheVariants.{Go}
use Rattle.rk_calls.specs.declared.drive.Spoke.TheVariants.{Call as Calls, Exit as Exits}
use Rattle.rk_calls.specs.Talk.{Says}
use Rattle.rk_calls.specs.Saying.{speaks, goes_on}
use Rattle.rk_calls.specs.Fits.{fits}
use Rattle.rk_calls.specs.Keys.{KeyValue}
use Rattle.tr_record.specs.declared.records.Record.{Record}
use Rattle.tr_record.specs.declared.steps.Step.{Step}
use Rattle.tr_record.specs.Rec.{rec_at}

-- what a command says after these steps
abbrev pub follow : Says → List Step → Says
follow x [] = x
follow x (st ∷ sts) = follow (goes_on st.cost x st.answer) sts

-- it asks just this call at this cost, and the answer fits
abbrev pub IsStep : Says → Step → Type 0
IsStep x st = (speaks st.cost x ≡ Calls st.call st.cost) × (fits st.call st.answer ≡ true)

-- given the answers one after another, it asks just these calls at these costs
abbrev pub Follows : Says → List Step → Type 0
Follows x [] = Unit {0}
Follows x (st ∷ sts) = IsStep x st × Follows (goes_on st.cost x st.answer) sts

-- a step that stands nowhere
abbrev pub no_step : Step
no_step = record { cost = 0; call = Read 0; answer = Go }

-- the step at a place, from 0 on
abbrev pub step_at : ℕ → List Step → Step
step_at i steps = slice_index_or steps i no_step

-- the command of the record's key says just what is recorded
pub record IsSpoken (first : KeyValue → Says) (rec : Record) : Type 0 where
  pub follows : Follows (first rec.key) rec.steps
  pub ends : speaks rec.exit_cost (follow (first rec.key) rec.steps) ≡ Exits rec.exit rec.exit_cost

abbrev pub AreSpoken : (KeyValue → Says) → List Record → Type 0
AreSpoken first table = (i : ℕ) → i < length table → IsSpoken first (rec_at i table)

-- the step with this number, from 1 on, is the first that it doesn't say; one past the last is the exit
pub record IsWrongStep (first : KeyValue → Says) (rec : Record) (number : ℕ) : Type 0 where
  pub place : ℕ
  pub number_is : number ≡ place + 1
  pub before : Follows (first rec.key) (take place rec.steps)
  pub wrong :
      ((place < length rec.steps) × ¬ IsStep (follow (first rec.key) (take place rec.steps)) (step_at place rec.steps))
      ⊎ ((place ≡ length rec.steps) × (speaks rec.exit_cost (follow (first rec.key) rec.steps) ≢ Exits rec.exit rec.exit_cost))
