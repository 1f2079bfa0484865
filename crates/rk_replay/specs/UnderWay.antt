-- A build under way.
use Rattle.std.specs.Prelude.{◌≡◌, ◌≢◌, ℕ, ◌+◌, ◌≤◌, IsFalse, IsTrue, List, [], ◌∷◌, ◌++◌, length}
use Rattle.rk_calls.specs.declared.answer.Answer.{Answer}
use Rattle.rk_calls.specs.declared.answer.Answer.TheVariants.{Joined}
use Rattle.rk_calls.specs.declared.call.Call.{Call}
use Rattle.rk_calls.specs.declared.call.Call.TheVariants.{Launch}
use Rattle.rk_calls.specs.declared.drive.Spoke.{Spoke}
use Rattle.rk_calls.specs.Heard.{IsPaid}
use Rattle.rk_calls.specs.Keys.{KeyValue}
use Rattle.rk_calls.specs.Refs.{passed_refs}
use Rattle.rk_calls.specs.Talk.{Says}
use Rattle.tr_record.specs.Contents.{AreContents}
use Rattle.tr_record.specs.Rec.{begun, stepped, ended}
use Rattle.rk_traces.specs.declared.active.Frame.{Frame}
use Rattle.rk_traces.specs.Own.{total}
use Rattle.rk_traces.specs.Run.{step}
use Rattle.rk_traces.specs.Started.{started}
use Rattle.rk_replay.specs.declared.activity.Activity.{Activity}
use Rattle.rk_replay.specs.declared.replay.Replay.{Replay}
use Rattle.rk_replay.specs.declared.talks.Talks.{Talks}
use Rattle.rk_replay.specs.Activities.{KnowsNext, Speaks_on}
use Rattle.rk_replay.specs.Causes.{AreCauses}
use Rattle.rk_replay.specs.Links.{AreSeated, IsAsKept, IsKept, IsStillAt, Keeps, Replaying, pend}
use Rattle.rk_replay.specs.Ran.{AreKept, AreStill, HaveOneNumber, ran_count, ran_total}
use Rattle.rk_replay.specs.Seats.{AreTalks}

-- The command that goes on, those that wait, and what stands in the table, before the next turn: each command under way is linked to
-- the kept records of its key that are left, those that have exited are recorded where they didn't run, and where it is told each is the
-- kept record of its number; and of each it is noted why it ran. No more were launched than turns were paid, beside the first.
pub record IsUnderWay {S : Type 0} (r : Replay S) : Type 0 where
  pub contents : AreContents r.earlier.contents r.earlier.records
  pub talks : AreTalks r.earlier r.talks
  pub replays : Replaying r.earlier.records r.table r.top r.stack.items
  pub keeps : Keeps (λ _. IsKept r.earlier.records) r.table r.top r.stack.items
  pub still : Keeps (IsStillAt r.still r.earlier.records) r.table r.top r.stack.items
  pub told : HaveOneNumber r.earlier.contents r.earlier.records → IsFalse r.still → ¬ Keeps (IsAsKept r.earlier.records) r.table r.top r.stack.items
  pub seated : AreSeated r.earlier r.talks.groups.items r.top.machine r.stack.items
  pub causes : AreCauses r.earlier.records r.table r.causes
  pub records : length r.table ≤ total r.table + pend r.stack.items + 1

-- the same build with another activity of the command that goes on
abbrev pub with_machine : {S : Type 0} → Activity S → Replay S → Replay S
with_machine machine r = record r { top = record r.top { machine = machine } }

-- and with more known of the kept records
abbrev pub as_heard : {S : Type 0} → Activity S → Talks → Replay S → Replay S
as_heard machine talks r = record r { top = record r.top { machine = machine }; talks = talks }

-- the command that goes on has said this, which its purse met, and the build was under way before
pub record HasSaid {S : Type 0} (r : Replay S) (spoke : Spoke) : Type 0 where
  pub was : Activity S
  pub under_way : IsUnderWay (with_machine was r)
  pub on : Speaks_on r.earlier.records was r.top.machine spoke
  pub knows : KnowsNext r.earlier r.talks.groups.items r.top.machine
  pub purse : ℕ
  pub paid : IsPaid purse spoke

-- As many machines were started as commands ran since, and as much was counted as these paid.
pub record AreCounted {S : Type 0} (was now : Replay S) (starts starts_now live live_now : ℕ) : Type 0 where
  pub more : ℕ
  pub ran : ran_count now.earlier.records now.table ≡ ran_count was.earlier.records was.table + more
  pub machines : starts_now ≡ started more starts
  pub turns : live_now + ran_total was.earlier.records was.table ≡ live + ran_total now.earlier.records now.table

-- this was paid since
abbrev pub HasPaid : {S : Type 0} → ℕ → Replay S → Replay S → Type 0
HasPaid cost was now = total now.table + pend now.stack.items ≡ total was.table + pend was.stack.items + cost

-- A command has launched another one at this cost, which goes on in its place; it waits.
pub record Launches {S : Type 0} (key : KeyValue) (map : List (ℕ × ℕ)) (cost : ℕ) (was now : Replay S) : Type 0 where
  pub table : now.table ≡ begun key was.table
  pub place : now.top.place ≡ length was.table
  pub refs : now.top.refs ≡ passed_refs was.top.refs map
  pub stack : now.stack.items ≡ was.stack.items ++ record { waiting = was.top; key = key; map = map; cost = cost } ∷ []

-- The call of a command was answered so, at this cost.
pub record Answers {S : Type 0} (call : Call) (cost : ℕ) (answer : Answer) (was now : Replay S) : Type 0 where
  pub table : now.table ≡ stepped was.top.place (step cost call answer) was.table
  pub place : now.top.place ≡ was.top.place
  pub stack : now.stack.items ≡ was.stack.items

-- A command has exited so, and the one that waited for it goes on, with that status as its answer.
pub record Joins {S : Type 0} (says waits : Activity S → Answer → Says) (status cost : ℕ) (was now : Replay S) : Type 0 where
  pub frame : Frame (Activity S)
  pub stack : was.stack.items ≡ now.stack.items ++ frame ∷ []
  pub table : now.table ≡ stepped frame.waiting.place (step frame.cost (Launch frame.key frame.map) (Joined status)) (ended was.top.place status cost was.table)
  pub place : now.top.place ≡ frame.waiting.place
  pub refs : now.top.refs ≡ frame.waiting.refs
  pub state : says now.top.machine (Joined status) ≡ waits frame.waiting.machine (Joined status)

-- The first command has exited so, for which none waited: what didn't run is recorded, and where it is told each record is the kept one
-- of its number.
pub record Ends {S : Type 0} (status cost : ℕ) (was now : Replay S) : Type 0 where
  pub none : was.stack.items ≡ []
  pub left : now.stack.items ≡ []
  pub table : now.table ≡ ended was.top.place status cost was.table
  pub some : now.table ≢ []
  pub kept : AreKept now.earlier.records now.table
  pub still : IsTrue now.still → AreStill now.earlier.records now.table
  pub told : HaveOneNumber now.earlier.contents now.earlier.records → AreStill now.earlier.records now.table → IsTrue now.still
  pub causes : AreCauses now.earlier.records now.table now.causes
