-- Steps by their places, and where the answers of two commands differ first.
use Rattle.std.specs.Prelude.{◌≡◌, ◌≢◌, ℕ, ◌<◌, List, length, map, slice_index_or}
use Rattle.rk_calls.specs.declared.answer.Answer.{Answer}
use Rattle.rk_calls.specs.declared.answer.Answer.TheVariants.{Go}
use Rattle.rk_calls.specs.declared.call.Call.{Call}
use Rattle.rk_calls.specs.declared.call.Call.TheVariants.{Read}
use Rattle.tr_record.specs.declared.records.Record.{Record}
use Rattle.tr_record.specs.declared.steps.Step.{Step}
use Rattle.tr_record.specs.Rec.{rec_at}

-- a step that stands nowhere
abbrev pub no_step : Step
no_step = record { cost = 0; call = Read 0; answer = Go }

-- the step at a place, from 0 on
abbrev pub step_at : ℕ → List Step → Step
step_at i steps = slice_index_or steps i no_step

-- what a record's step at a place was answered
abbrev pub answer_at : List Record → ℕ → ℕ → Answer
answer_at old at i = (step_at at (rec_at i old).steps).answer

-- the step of a call
abbrev pub step : ℕ → Call → Answer → Step
step cost call answer = record { cost = cost; call = call; answer = answer }

-- what the steps were answered, one after another
abbrev pub answers_of : List Step → List Answer
answers_of steps = map (λ st. st.answer) steps

-- the first step that both have and at which the answers differ
pub record IsFirstDifference (xs ys : List Step) (i : ℕ) : Type 0 where
  pub here : (i < length xs) × (i < length ys)
  pub differ : (step_at i xs).answer ≢ (step_at i ys).answer
  pub before : (k : ℕ) → k < i → (step_at k xs).answer ≡ (step_at k ys).answer
