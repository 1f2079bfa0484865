-- What `mv` and `cp` say (XCU, "Utilities").
use Rattle.std.specs.Prelude.{List, [], ◌∷◌, codes, false, Option, Some, None, IfSome, if◌then◌else◌}
use Rattle.rk_base.specs.Text.{Text, same_text}
use Rattle.rk_calls.specs.declared.answer.Answer.{Answer}
use Rattle.rk_calls.specs.Talk.{Says}
use Rattle.rk_calls.specs.Views.{IsCommandTalk}
use Rattle.ut_args.specs.declared.form.Form.TheVariants.{Alone}
use Rattle.ut_args.specs.declared.form.Opt.{Opt}
use Rattle.ut_args.specs.declared.opts.Given.{Given}
use Rattle.ut_args.specs.Opts.{has}
use Rattle.ut_copy.specs.declared.copy_task.CopyTask.{CopyTask}
use Rattle.ut_copy.specs.declared.copy_task.CopyTask.TheVariants.{FindTarget}
use Rattle.ut_copy.specs.declared.utility.Utility.{Utility}
use Rattle.ut_copy.specs.declared.utility.Utility.TheVariants.{Cp, Mv}
use Rattle.ut_copy.specs.CopyTasks.{copy_rules}
use Rattle.ut_files.specs.declared.manner.Manner.{Manner}
use Rattle.ut_files.specs.declared.step.WorkItem.{WorkItem}
use Rattle.ut_files.specs.declared.step.WorkItem.TheVariants.{Do}
use Rattle.ut_files.specs.Beginnings.{Beginning, first_word, by_name, talk-by_name}
use Rattle.ut_files.specs.Targets.{with_target}
use Rattle.ut_files.specs.declared.worker.Worker.{Worker}
use Rattle.ut_files.specs.Working.{worker_talk}

abbrev pub name_of : Utility → Text
name_of Cp = codes "cp"
name_of Mv = codes "mv"

-- `cp [-R]`, `mv [-f]`
abbrev pub table : Utility → List Opt
table Cp = (record { letter = 82; form = Alone }) ∷ []
table Mv = (record { letter = 102; form = Alone }) ∷ []

abbrev pub manner_of : Utility → Text → List Given → Manner
manner_of utility wd given =
    record {
      name = name_of utility;
      wd = wd;
      force = has 102 given;
      recursive = has 82 given;
      symbolic = false;
    }

abbrev pub finding : Utility → List Text → Text → WorkItem CopyTask
finding utility sources target = Do (FindTarget utility sources target)

abbrev pub first_steps : Utility → Manner → List Text → List (WorkItem CopyTask)
first_steps utility m operands = with_target m (finding utility) operands

abbrev pub beginning : Utility → Beginning CopyTask
beginning utility = record { table = table utility; manner = manner_of utility; first = λ m given operands. first_steps utility m operands }

-- what a utility at work says
abbrev pub copy_talk : Worker CopyTask → Answer → Says
copy_talk = worker_talk copy_rules

-- the utility of a name, where it is one of these
abbrev pub named : Text → Option Utility
named name = if same_text name (codes "cp") then Some Cp else (if same_text name (codes "mv") then Some Mv else None)

-- the utility of some words in a working directory
abbrev pub copy_utility : Text → List Text → Option Says
copy_utility wd argv = by_name copy_rules beginning wd argv (named (first_word argv))

-- a command may say it
pub talk-copy_utility : (wd : Text) (argv : List Text) → IfSome (copy_utility wd argv) IsCommandTalk
talk-copy_utility wd argv = talk-by_name copy_rules beginning wd argv (named (first_word argv))
