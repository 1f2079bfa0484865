-- Runs over lists of answers.
use Rattle.std.specs.Prelude.{◌≡◌, ℕ, ◌-◌, List, [], ◌∷◌, map, true}
use Rattle.rk_calls.specs.declared.answer.Answer.{Answer}
use Rattle.rk_calls.specs.declared.drive.Spoke.{Spoke}
use Rattle.rk_calls.specs.declared.drive.Spoke.TheVariants.{Call as Calls, Exit as Exits, Short}
use Rattle.rk_calls.specs.Fits.{fits}
use Rattle.rk_calls.specs.Keys.{KeyValue}
use Rattle.rk_calls.specs.Saying.{speaks, goes_on}
use Rattle.rk_calls.specs.Talk.{Says}
use Rattle.tr_record.specs.declared.records.Record.{Record}
use Rattle.tr_record.specs.declared.steps.Step.{Step}
use Rattle.rk_traces.specs.Own.{own}
use Rattle.rk_traces.specs.Run.{step}

-- how such a run ends: it exits at what was paid since its last step, its purse is spent, or no answer is left
-- for its call
pub data Ending : Type 0 where
  Exited : (status cost : ℕ) → Ending
  Spent : Ending
  Dry : Ending

-- its steps, and how it ends
pub record Heard : Type 0 where
  pub steps : List Step
  pub ending : Ending

abbrev pub heard : List Step → Ending → Heard
heard steps ending = record { steps = steps; ending = ending }

-- after one step more
abbrev pub then : Step → Heard → Heard
then st h = heard (st ∷ h.steps) h.ending

-- with no answer left
abbrev pub last_heard : Spoke → Heard
last_heard (Calls call cost) = heard [] Dry
last_heard (Exits status cost) = heard [] (Exited status cost)
last_heard Short = heard [] Spent

-- with this answer next
abbrev pub next_heard : Answer → (ℕ → Heard) → Spoke → Heard
next_heard a on (Calls call cost) = then (step cost call a) (on cost)
next_heard a on (Exits status cost) = heard [] (Exited status cost)
next_heard a on Short = heard [] Spent

-- what a command says with this purse, over these answers
abbrev pub over : ℕ → Says → List Answer → Heard
over p x [] = last_heard (speaks p x)
over p x (a ∷ more) = next_heard a (λ cost. over (p - cost) (goes_on cost x a) more) (speaks p x)

abbrev pub answers_of : List Step → List Answer
answers_of steps = map (λ st. st.answer) steps

-- each answer fits its call
abbrev pub AllFit : List Step → Type 0
AllFit [] = Unit {0}
AllFit (st ∷ sts) = (fits st.call st.answer ≡ true) × AllFit sts

-- over the recorded answers, and with what the record paid as its purse, the command of its key has just the
-- recorded steps, exits so when the answers are used up, and each answer fits its call
pub record IsRunOver (first : KeyValue → Says) (rec : Record) : Type 0 where
  pub run : over (own rec) (first rec.key) (answers_of rec.steps) ≡ heard rec.steps (Exited rec.exit rec.exit_cost)
  pub fit : AllFit rec.steps
