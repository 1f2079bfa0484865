-- How the utilities begin: their options and operands (XCU, "Utilities").
use Rattle.std.specs.Prelude.{List, [], ◌∷◌, if◌then◌else◌}
use Rattle.rk_base.specs.Text.{Text}
use Rattle.ut_args.specs.declared.opts.Given.{Given}
use Rattle.ut_args.specs.Forms.{is_mode}
use Rattle.ut_args.specs.Opts.{has}
use Rattle.ut_files.specs.declared.file_task.FileTask.{FileTask}
use Rattle.ut_files.specs.declared.file_task.FileTask.TheVariants as task
use Rattle.ut_files.specs.declared.first.Deed.{Deed}
use Rattle.ut_files.specs.declared.first.Deed.TheVariants.{RemoveDir, MakeDir, MakePath, SetMode, Touch as Touching, Remove}
use Rattle.ut_files.specs.declared.manner.Manner.{Manner}
use Rattle.ut_files.specs.declared.step.WorkItem.{WorkItem}
use Rattle.ut_files.specs.declared.step.WorkItem.TheVariants.{Do}
use Rattle.ut_files.specs.declared.utility.Utility.{Utility}
use Rattle.ut_files.specs.declared.utility.Utility.TheVariants.{Chmod, Ln, Mkdir, Rm, Rmdir, Touch}
use Rattle.ut_files.specs.Complaints.{usage}
use Rattle.ut_files.specs.Modes.{octal, mode_given}
use Rattle.ut_files.specs.Operands.{longer}
use Rattle.ut_files.specs.Removing.{removal}
use Rattle.ut_files.specs.Targets.{with_target}

-- how an operand begins
abbrev pub doing : Manner → Deed → Text → WorkItem FileTask
doing m RemoveDir operand = Do (task.RemoveDir operand)
doing m (MakeDir mode) operand = Do (task.MakeDir operand mode)
doing m (MakePath mode) operand = Do (task.MakePrefix operand (longer operand 0) mode)
doing m (SetMode mode) operand = Do (task.SetMode operand mode)
doing m Touching operand = Do (task.LookAt operand)
doing m Remove operand = removal m operand

-- each operand in turn
abbrev pub each : Manner → Deed → List Text → List (WorkItem FileTask)
each m deed [] = []
each m deed (operand ∷ operands) = doing m deed operand ∷ each m deed operands

abbrev pub one_or_more : Manner → Deed → List Text → List (WorkItem FileTask)
one_or_more m deed [] = usage m
one_or_more m deed (operand ∷ operands) = each m deed (operand ∷ operands)

-- `chmod`: the first operand is the mode of the others
abbrev pub moding : Manner → List Text → List (WorkItem FileTask)
moding m [] = usage m
moding m (mode ∷ operands) = if is_mode mode then one_or_more m (SetMode (octal mode)) operands else usage m

-- `mkdir`
abbrev pub making : List Given → Deed
making given = if has 112 given then MakePath (mode_given 493 given) else MakeDir (mode_given 493 given)

-- `rm`: with `-f` no operand is fine
abbrev pub removing : Manner → List Text → List (WorkItem FileTask)
removing m operands = if m.force then each m Remove operands else one_or_more m Remove operands

abbrev pub finding : List Text → Text → WorkItem FileTask
finding sources target = Do (task.FindTarget sources target)

-- `ln`
abbrev pub linking_all : Manner → List Text → List (WorkItem FileTask)
linking_all m operands = with_target m finding operands

abbrev pub first_steps : Utility → Manner → List Given → List Text → List (WorkItem FileTask)
first_steps Chmod m given operands = moding m operands
first_steps Ln m given operands = linking_all m operands
first_steps Mkdir m given operands = one_or_more m (making given) operands
first_steps Rm m given operands = removing m operands
first_steps Rmdir m given operands = one_or_more m RemoveDir operands
first_steps Touch m given operands = one_or_more m Touching operands
