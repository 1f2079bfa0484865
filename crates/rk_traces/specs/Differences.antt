-- Where two records differ.
use Rattle.std.specs.Prelude.{◌≡◌, ◌≢◌, ℕ, ◌<◌, ◌≤◌, List, length, Option, Some, None}
use Rattle.tr_record.specs.declared.records.Record.{Record}
use Rattle.tr_record.specs.declared.steps.Step.{Step}
use Rattle.rk_traces.specs.Spoken.{step_at}

-- both have a step there
abbrev pub BothHave : List Step → List Step → ℕ → Type 0
BothHave xs ys i = (i < length xs) × (i < length ys)

-- the first step that both have and at which the answers differ
pub record IsFirstDifference (xs ys : List Step) (i : ℕ) : Type 0 where
  pub here : BothHave xs ys i
  pub differ : (step_at i xs).answer ≢ (step_at i ys).answer
  pub before : (k : ℕ) → k < i → (step_at k xs).answer ≡ (step_at k ys).answer

-- the answers are the same wherever both have a step
abbrev pub AnswerAlike : List Step → List Step → Type 0
AnswerAlike xs ys = (i : ℕ) → BothHave xs ys i → (step_at i xs).answer ≡ (step_at i ys).answer

-- the same call at the same cost
abbrev pub AskAlike : Step → Step → Type 0
AskAlike s t = (s.call ≡ t.call) × (s.cost ≡ t.cost)

-- they ask alike up to the first answer that differs, and that call too; or they are the same but for key and
-- ordinal
abbrev pub DifferFrom : Record → Record → Option ℕ → Type 0
DifferFrom a b (Some i) = (k : ℕ) → k ≤ i → AskAlike (step_at k a.steps) (step_at k b.steps)
DifferFrom a b None = (a.steps ≡ b.steps) × (a.exit ≡ b.exit) × (a.exit_cost ≡ b.exit_cost)
