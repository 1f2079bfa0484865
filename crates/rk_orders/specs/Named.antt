-- A recorded run by names: the steps of its commands, as their records have them, in the order of the run.
use Rattle.std.specs.Prelude.{◌≡◌, ℕ, suc, List, [], ◌∷◌, length, Option, Some, None, slice_get}
use Rattle.rk_calls.specs.declared.answer.Answer.{Answer}
use Rattle.rk_calls.specs.declared.call.Call.{Call}
use Rattle.rk_calls.specs.declared.call.Call.TheVariants.{Launch}
use Rattle.rk_feet.specs.Steps.{Step}
use Rattle.tr_record.specs.declared.records.Record.{Record}
use Rattle.tr_record.specs.declared.steps.Step.{Step as Recorded}
use Rattle.rk_orders.specs.Held.{Held, ask_of, opens, passed_held, top_held, with_opens}

-- a step with the answer that its record has
pub record Answered : Type 0 where
  pub step : Step
  pub answer : Answer

-- a command under way: the number of its record, its descriptors, the number of its next step, and which of its steps are left
pub record Command : Type 0 where
  pub owner : ℕ
  pub held : Held
  pub number : ℕ
  pub left : List Recorded

-- the commands under way, of which the first was launched last, and how many were launched
pub record Course : Type 0 where
  pub under_way : List Command
  pub begun : ℕ

-- its next step, which is recorded so
abbrev pub next_step : Command → Recorded → Answered
next_step it st = record { step = record { command = it.owner; number = it.number; ask = ask_of it.held st.call st.answer }; answer = st.answer }

-- the command after it, with these steps left
abbrev pub gone_on : Command → Recorded → List Recorded → Command
gone_on it st sts =
    record { owner = it.owner; held = with_opens it.held (opens it.owner it.number st.call st.answer); number = suc it.number; left = sts }

-- the command of the next record begins, with these descriptors
abbrev pub begins : Course → List Command → Held → Option Record → Course
begins c waiting held None = record c { under_way = waiting }
begins c waiting held (Some rec) =
    record { under_way = record { owner = c.begun; held = held; number = 0; left = rec.steps } ∷ waiting; begun = suc c.begun }

module _ (table : List Record) where
  -- after a launch the command of the next record goes on first
  abbrev pub goes_on : Course → List Command → Held → Call → Course
  goes_on c waiting held (Launch key map) = begins c waiting (passed_held held map) (slice_get table c.begun)
  goes_on c waiting held _ = record c { under_way = waiting }

  -- a command takes the next of its steps, or ends
  abbrev pub taken : Course → Command → List Command → List Recorded → Option Answered × Course
  taken c it others [] = (None, record c { under_way = others })
  taken c it others (st ∷ sts) = (Some (next_step it st), goes_on c (gone_on it st sts ∷ others) it.held st.call)

  abbrev pub turned : Course → List Command → Option (Option Answered × Course)
  turned c [] = None
  turned c (it ∷ others) = Some (taken c it others it.left)

  abbrev pub turn : Course → Option (Option Answered × Course)
  turn c = turned c c.under_way

  -- these are the turns from here on: in each a command takes a step, or ends; in the end each record's was launched and none is under way
  abbrev pub AreTurns : Course → List (Option Answered) → Type 0
  AreTurns c [] = (c.under_way ≡ []) × (c.begun ≡ length table)
  AreTurns c (o ∷ os) = (next : Course) × (turn c ≡ Some (o, next)) × AreTurns next os

-- the first command, of the first record
abbrev pub started : Option Record → Course
started None = record { under_way = []; begun = 0 }
started (Some rec) = record { under_way = record { owner = 0; held = top_held; number = 0; left = rec.steps } ∷ []; begun = 1 }

abbrev pub start : List Record → Course
start table = started (slice_get table 0)

-- the steps that turns take
abbrev pub steps_in : {A : Type 0} → List (Option A) → List A
steps_in [] = []
steps_in (None ∷ os) = steps_in os
steps_in (Some x ∷ os) = x ∷ steps_in os

-- these are the steps of a run of these records, each with its answer, in the order of the run
pub record AreSteps (table : List Record) (steps : List Answered) : Type 0 where
  pub turns : List (Option Answered)
  pub are : AreTurns table (start table) turns
  pub taken : steps_in turns ≡ steps
