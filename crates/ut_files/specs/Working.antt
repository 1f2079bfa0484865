-- What the machine of file utilities says.
use Rattle.std.specs.Prelude.{ℕ, Bool, List, Option, Some, None}
use Rattle.rk_calls.specs.declared.answer.Answer.{Answer}
use Rattle.rk_calls.specs.Talk.{Says}
use Rattle.ut_files.specs.declared.manner.Manner.{Manner}
use Rattle.ut_files.specs.declared.step.WorkItem.{WorkItem}
use Rattle.ut_files.specs.declared.worker.Worker.{Worker}
use Rattle.ut_files.specs.Works.{Rules, Work, works, answered}

abbrev pub work_of : {T : Type 0} → Bool → ℕ → List (WorkItem T) → Work T
work_of failed next left = record { failed = failed; next = next; left = left }

-- once the task that was asked, where there is one, was answered
abbrev pub settled : {T : Type 0} → Rules T → Option T → Answer → Work T → Work T
settled rules None a work = work
settled rules (Some task) a work = answered rules task a work

abbrev pub worker_talk : {T : Type 0} → (Manner → Rules T) → Worker T → Answer → Says
worker_talk rules w a = works (rules w.manner) (settled (rules w.manner) w.asked a (work_of w.failed w.next w.left.items))
