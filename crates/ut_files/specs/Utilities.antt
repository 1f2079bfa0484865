-- What `chmod`, `ln`, `mkdir`, `rm`, `rmdir` and `touch` say (XCU, "Utilities").
use Rattle.std.specs.Prelude.{ℕ, List, [], ◌∷◌, codes, Option, Some, None, IfSome, if◌then◌else◌}
use Rattle.rk_base.specs.Text.{Text, same_text}
use Rattle.rk_calls.specs.declared.answer.Answer.{Answer}
use Rattle.rk_calls.specs.Talk.{Says}
use Rattle.rk_calls.specs.Views.{IsCommandTalk}
use Rattle.ut_args.specs.declared.form.Form.TheVariants.{Alone, Mode}
use Rattle.ut_args.specs.declared.form.Opt.{Opt}
use Rattle.ut_args.specs.declared.opts.Given.{Given}
use Rattle.ut_args.specs.Opts.{has}
use Rattle.ut_files.specs.declared.file_task.FileTask.{FileTask}
use Rattle.ut_files.specs.declared.manner.Manner.{Manner}
use Rattle.ut_files.specs.declared.utility.Utility.{Utility}
use Rattle.ut_files.specs.declared.utility.Utility.TheVariants.{Chmod, Ln, Mkdir, Rm, Rmdir, Touch}
use Rattle.ut_files.specs.Beginnings.{Beginning, first_word, by_name, talk-by_name}
use Rattle.ut_files.specs.FileTasks.{file_rules}
use Rattle.ut_files.specs.First.{first_steps}
use Rattle.ut_files.specs.declared.worker.Worker.{Worker}
use Rattle.ut_files.specs.Working.{worker_talk}

abbrev pub name_of : Utility → Text
name_of Chmod = codes "chmod"
name_of Ln = codes "ln"
name_of Mkdir = codes "mkdir"
name_of Rm = codes "rm"
name_of Rmdir = codes "rmdir"
name_of Touch = codes "touch"

abbrev pub flag : ℕ → Opt
flag letter = record { letter = letter; form = Alone }

-- `ln [-s] [-f]`, `mkdir [-p] [-m M]`, `rm [-f] [-r]`
abbrev pub table : Utility → List Opt
table Chmod = []
table Ln = flag 115 ∷ flag 102 ∷ []
table Mkdir = flag 112 ∷ (record { letter = 109; form = Mode }) ∷ []
table Rm = flag 102 ∷ flag 114 ∷ []
table Rmdir = []
table Touch = []

abbrev pub manner_of : Utility → Text → List Given → Manner
manner_of utility wd given =
    record {
      name = name_of utility;
      wd = wd;
      force = has 102 given;
      recursive = has 114 given;
      symbolic = has 115 given;
    }

abbrev pub beginning : Utility → Beginning FileTask
beginning utility = record { table = table utility; manner = manner_of utility; first = first_steps utility }

-- what a utility at work says
abbrev pub file_talk : Worker FileTask → Answer → Says
file_talk = worker_talk file_rules

-- the utility of a name, where it is one of these
abbrev pub named : Text → Option Utility
named name =
    if same_text name (codes "chmod") then Some Chmod else
    (if same_text name (codes "ln") then Some Ln else
    (if same_text name (codes "mkdir") then Some Mkdir else
    (if same_text name (codes "rm") then Some Rm else
    (if same_text name (codes "rmdir") then Some Rmdir else
    (if same_text name (codes "touch") then Some Touch else None)))))

-- the utility of some words in a working directory
abbrev pub file_utility : Text → List Text → Option Says
file_utility wd argv = by_name file_rules beginning wd argv (named (first_word argv))

-- a command may say it
pub talk-file_utility : (wd : Text) (argv : List Text) → IfSome (file_utility wd argv) IsCommandTalk
talk-file_utility wd argv = talk-by_name file_rules beginning wd argv (named (first_word argv))
