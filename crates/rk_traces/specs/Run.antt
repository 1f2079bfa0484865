-- Runs of commands that launch commands.
use Rattle.std.specs.Prelude.{ℕ, zero, suc, ◌-◌, List, [], length}
use Rattle.rk_calls.specs.declared.call.Call.{Call}
use Rattle.rk_calls.specs.declared.call.Call.TheVariants.{Launch}
use Rattle.rk_calls.specs.declared.answer.Answer.{Answer}
use Rattle.rk_calls.specs.declared.answer.Answer.TheVariants.{Joined}
use Rattle.rk_calls.specs.declared.drive.Spoke.{Spoke}
use Rattle.rk_calls.specs.declared.drive.Spoke.TheVariants.{Call as Calls, Exit as Exits, Short}
use Rattle.rk_calls.specs.Talk.{Says}
use Rattle.rk_calls.specs.Saying.{speaks, goes_on}
use Rattle.rk_calls.specs.Keys.{KeyValue}
use Rattle.rk_calls.specs.Refs.{RefsHeld, passed_refs}
use Rattle.rk_calls.specs.Given.{Given}
use Rattle.tr_record.specs.declared.records.Record.{Record}
use Rattle.tr_record.specs.declared.steps.Step.{Step}
use Rattle.tr_record.specs.Rec.{begun, stepped, ended}

-- What a run stands in: what the command of each key says, and what the world gives to each call but launches.
pub record Environment (W : Type 0) : Type 0 where
  pub first : KeyValue → Says
  pub given : W → RefsHeld → Call → Given W

abbrev pub environment : {W : Type 0} → (KeyValue → Says) → (W → RefsHeld → Call → Given W) → Environment W
environment first given = record { first = first; given = given }

-- a step
abbrev pub step : ℕ → Call → Answer → Step
step cost call answer = record { cost = cost; call = call; answer = answer }

-- how a run ends: the world, the status, what is left of the purse, and the records; or it is spent
pub data Outcome (W : Type 0) : Type 0 where
  Done : (world : W) (status left : ℕ) (table : List Record) → Outcome W
  Spent : Outcome W

abbrev pub and_then : {W : Type 0} → Outcome W → (W → ℕ → ℕ → List Record → Outcome W) → Outcome W
and_then (Done w status left t) f = f w status left t
and_then Spent f = Spent

-- the run of a command from here on, by its purse, its place in the table, its descriptors and what it says
abbrev pub On : Type 0 → Type 0
On W = ℕ → ℕ → RefsHeld → Says → W → List Record → Outcome W

-- the world has given an answer to its call; by the answer it says this
abbrev pub after_answer : {W : Type 0} → On W → ℕ → ℕ → (Answer → Says) → List Record → ℕ → Call → Given W → Outcome W
after_answer on purse place wait t cost call it =
    on (purse - cost) place it.refs (wait it.answer) it.world (stepped place (step cost call it.answer) t)

-- a command that it launched has ended so
abbrev pub after_launch : {W : Type 0} → On W → ℕ → RefsHeld → (Answer → Says) → ℕ → Call → W → ℕ → ℕ → List Record → Outcome W
after_launch on place refs wait cost call w status left t =
    on left place refs (wait (Joined status)) w (stepped place (step cost call (Joined status)) t)

-- what the command at a place does after it asked a call: it launches a command, on the same world, purse and
-- table, and waits for it; each other call is asked of the world
abbrev pub after_ask : {W : Type 0} → Environment W → On W → ℕ → ℕ → RefsHeld → Says → W → List Record → ℕ → Call → Outcome W
after_ask g on purse place refs x w t cost (Launch key map) =
    and_then (on (purse - cost) (length t) (passed_refs refs map) (g.first key) w (begun key t)) (after_launch on place refs (goes_on cost x) cost (Launch key map))
after_ask g on purse place refs x w t cost call = after_answer on purse place (goes_on cost x) t cost call (g.given w refs call)

-- what the command at a place does after it spoke
abbrev pub after_spoke : {W : Type 0} → Environment W → On W → ℕ → ℕ → RefsHeld → Says → W → List Record → Spoke → Outcome W
after_spoke g on purse place refs x w t (Calls call cost) = after_ask g on purse place refs x w t cost call
after_spoke g on purse place refs x w t (Exits status cost) = Done w status (purse - cost) (ended place status cost t)
after_spoke g on purse place refs x w t Short = Spent

-- within so many steps of it and of those that it launches
abbrev pub runs : {W : Type 0} → Environment W → ℕ → On W
runs g zero purse place refs x w t = Spent
runs g (suc n) purse place refs x w t = after_spoke g (runs g n) purse place refs x w t (speaks purse x)

-- each step costs at least 1, so the purse bounds their number
unfoldable pub run : {W : Type 0} → Environment W → On W
run g purse place refs x w t = runs g (suc purse) purse place refs x w t

-- the fresh run of a key: nothing is recorded yet
abbrev pub fresh : {W : Type 0} → Environment W → ℕ → KeyValue → RefsHeld → W → Outcome W
fresh g purse key refs w = run g purse 0 refs (g.first key) w (begun key [])
