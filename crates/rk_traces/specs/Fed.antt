-- Commands that are given recorded answers.
use Rattle.std.specs.Prelude.{ℕ, ◌-◌, ◌≤◌, List, take}
use Rattle.rk_calls.specs.declared.answer.Answer.{Answer}
use Rattle.rk_calls.specs.Talk.{Says}
use Rattle.rk_calls.specs.Saying.{goes_on}
use Rattle.rk_calls.specs.Keys.{KeyValue}
use Rattle.tr_record.specs.declared.records.Record.{Record}
use Rattle.tr_record.specs.declared.steps.Step.{Step}
use Rattle.rk_traces.specs.Spoken.{follow, step_at, IsWrongStep}
use Rattle.rk_traces.specs.declared.feeding.FeedErr.{FeedErr}
use Rattle.rk_traces.specs.declared.feeding.FeedErr.TheVariants.{Forged, NoMemory}

-- what a command says after so many steps, by the answer to the last of them
abbrev pub waits_at : Says → List Step → ℕ → Answer → Says
waits_at x steps count a = goes_on (step_at (count - 1) steps).cost (follow x (take (count - 1) steps)) a

-- the wrong step of a record, among its first steps; nothing else is told but want of memory
abbrev pub IsWrongWithin : (KeyValue → Says) → Record → ℕ → FeedErr → Type 0
IsWrongWithin first rec count (Forged step) = (step ≤ count) × IsWrongStep first rec step
IsWrongWithin first rec count NoMemory = Unit {0}
