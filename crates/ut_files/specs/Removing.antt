-- `rm` and `rmdir` (XCU, "Utilities").
use Rattle.std.specs.Prelude.{List, [], ◌∷◌, Bool, ◌&&◌, Option, Some, None, Result, Ok, Err, if◌then◌else◌}
use Rattle.rk_base.specs.Text.{Text}
use Rattle.rk_base.specs.declared.errno.Errno.{Errno}
use Rattle.rk_base.specs.declared.errno.Errno.TheVariants.{IsDir, Invalid}
use Rattle.rk_base.specs.declared.file_type.FileType.{FileType}
use Rattle.rk_base.specs.declared.file_type.FileType.TheVariants.{File, Dir, Link}
use Rattle.ut_files.specs.declared.answers.Stood.{Stood}
use Rattle.ut_files.specs.declared.file_task.FileTask.{FileTask}
use Rattle.ut_files.specs.declared.file_task.FileTask.TheVariants.{RemoveDir, LookInto, ListDir, UnlinkName}
use Rattle.ut_files.specs.declared.manner.Manner.{Manner}
use Rattle.ut_files.specs.declared.step.WorkItem.{WorkItem}
use Rattle.ut_files.specs.declared.step.WorkItem.TheVariants.{Do}
use Rattle.ut_files.specs.Answers.{is_no_entry}
use Rattle.ut_files.specs.Complaints.{complaint}
use Rattle.ut_files.specs.Operands.{is_fixed, below}

-- for `-f`, what isn't there is as good as removed
abbrev pub is_passed : Manner → Errno → Bool
is_passed m errno = m.force && is_no_entry errno

-- `/` and a last `.` or `..` are refused without a call, and else it is looked at
abbrev pub removal : Manner → Text → WorkItem FileTask
removal m operand = if is_fixed operand then complaint m operand Invalid else Do (LookInto operand)

abbrev pub removal_refused : Manner → Text → Errno → List (WorkItem FileTask)
removal_refused m operand errno = if is_passed m errno then [] else complaint m operand errno ∷ []

-- a name or a directory was removed, or not
abbrev pub removed : Manner → Text → Option Errno → List (WorkItem FileTask)
removed m operand None = []
removed m operand (Some errno) = removal_refused m operand errno

-- a directory is listed first, with `-r`; a link is removed itself
abbrev pub by_kind : Manner → Text → FileType → List (WorkItem FileTask)
by_kind m operand Dir = if m.recursive then Do (ListDir operand) ∷ [] else complaint m operand IsDir ∷ []
by_kind m operand File = Do (UnlinkName operand) ∷ []
by_kind m operand Link = Do (UnlinkName operand) ∷ []

abbrev pub looked : Manner → Text → Result Stood Errno → List (WorkItem FileTask)
looked m operand (Ok s) = by_kind m operand s.kind
looked m operand (Err errno) = removal_refused m operand errno

-- each name in a directory by the same rule, and then the directory
abbrev pub entries : Manner → Text → List Text → List (WorkItem FileTask)
entries m operand [] = Do (RemoveDir operand) ∷ []
entries m operand (name ∷ names) = removal m (below operand name) ∷ entries m operand names

abbrev pub listed : Manner → Text → Result (List Text) Errno → List (WorkItem FileTask)
listed m operand (Ok names) = entries m operand names
listed m operand (Err errno) = removal_refused m operand errno
