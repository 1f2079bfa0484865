-- `ln` (XCU, "Utilities").
use Rattle.std.specs.Prelude.{List, [], ◌∷◌, Bool, true, false, Option, Some, None, Result, Ok, Err, if◌then◌else◌}
use Rattle.rk_base.specs.Text.{Text}
use Rattle.rk_base.specs.declared.errno.Errno.{Errno}
use Rattle.rk_base.specs.declared.errno.Errno.TheVariants.{Exists}
use Rattle.rk_calls.specs.declared.call.Call.{Call}
use Rattle.rk_calls.specs.declared.call.Call.TheVariants as call
use Rattle.rk_calls.specs.Places.{absolute}
use Rattle.ut_files.specs.declared.file_task.FileTask.{FileTask}
use Rattle.ut_files.specs.declared.file_task.FileTask.TheVariants.{CompareTarget, UnlinkTarget, MakeLink}
use Rattle.ut_files.specs.declared.manner.Manner.{Manner}
use Rattle.ut_files.specs.declared.step.WorkItem.{WorkItem}
use Rattle.ut_files.specs.declared.step.WorkItem.TheVariants.{Do}
use Rattle.ut_files.specs.declared.targets.Aim.{Aim}
use Rattle.ut_files.specs.declared.targets.Aim.TheVariants.{Inside, Itself, Nowhere}
use Rattle.ut_files.specs.Answers.{is_no_entry}
use Rattle.ut_files.specs.Complaints.{complaint}
use Rattle.ut_files.specs.Targets.{goal}

-- a link whose text is the source, or a second name for it
abbrev pub link_call : Manner → Text → Text → Call
link_call m source target =
    if m.symbolic then call.Symlink source (absolute m.wd target) else call.Link (absolute m.wd source) (absolute m.wd target)

-- with `-f` what stands at the target is removed first, but a source itself isn't
abbrev pub first_way : Manner → Text → Text → WorkItem FileTask
first_way m source target = if m.symbolic then Do (UnlinkTarget source target) else Do (CompareTarget source target)

abbrev pub linking : Manner → Text → Text → WorkItem FileTask
linking m source target = if m.force then first_way m source target else Do (MakeLink source target)

-- each source in turn
abbrev pub links : Manner → Aim → Text → List Text → List (WorkItem FileTask)
links m at target [] = []
links m at target (source ∷ sources) = linking m source (goal at target source) ∷ links m at target sources

abbrev pub found_target : Manner → List Text → Text → Aim → List (WorkItem FileTask)
found_target m sources target Inside = links m Inside target sources
found_target m sources target (Itself stands) = links m (Itself stands) target sources
found_target m sources target (Nowhere errno) = complaint m target errno ∷ []

-- where nothing stands, that is passed over, as it is when the target is removed
abbrev pub uncompared : Manner → Text → Text → Errno → List (WorkItem FileTask)
uncompared m source target errno = if is_no_entry errno then Do (UnlinkTarget source target) ∷ [] else complaint m source errno ∷ []

-- whether source and target are one
abbrev pub compared : Manner → Text → Text → Result Bool Errno → List (WorkItem FileTask)
compared m source target (Ok true) = complaint m source Exists ∷ []
compared m source target (Ok false) = Do (UnlinkTarget source target) ∷ []
compared m source target (Err errno) = uncompared m source target errno

abbrev pub not_unlinked : Manner → Text → Text → Errno → List (WorkItem FileTask)
not_unlinked m source target errno = if is_no_entry errno then Do (MakeLink source target) ∷ [] else complaint m target errno ∷ []

-- the target was removed, or not
abbrev pub unlinked : Manner → Text → Text → Option Errno → List (WorkItem FileTask)
unlinked m source target None = Do (MakeLink source target) ∷ []
unlinked m source target (Some errno) = not_unlinked m source target errno
