-- How `mv` and `cp` take their sources.
use Rattle.std.specs.Prelude.{List, [], ◌∷◌, Bool, true, Option, Some, None}
use Rattle.rk_base.specs.Text.{Text}
use Rattle.ut_copy.specs.declared.copy_task.CopyTask.{CopyTask}
use Rattle.ut_copy.specs.declared.copy_task.CopyTask.TheVariants.{Move, LookSource}
use Rattle.ut_copy.specs.declared.pair.Pair.{Pair}
use Rattle.ut_copy.specs.declared.utility.Utility.{Utility}
use Rattle.ut_copy.specs.declared.utility.Utility.TheVariants.{Cp, Mv}
use Rattle.ut_files.specs.declared.manner.Manner.{Manner}
use Rattle.ut_files.specs.declared.step.WorkItem.{WorkItem}
use Rattle.ut_files.specs.declared.step.WorkItem.TheVariants.{Do}
use Rattle.ut_files.specs.declared.targets.Aim.{Aim}
use Rattle.ut_files.specs.declared.targets.Aim.TheVariants.{Inside, Itself, Nowhere}
use Rattle.ut_files.specs.Complaints.{complaint}
use Rattle.ut_files.specs.Targets.{goal}

-- whether the target stands, where that is known
abbrev pub known : Aim → Option Bool
known Inside = None
known (Itself stands) = Some stands
known (Nowhere errno) = None

-- how a source begins
abbrev pub taking : Utility → Aim → Pair → WorkItem CopyTask
taking Mv at pair = Do (Move pair)
taking Cp at pair = Do (LookSource pair (known at) true)

-- each source in turn
abbrev pub takes : Utility → Aim → Text → List Text → List (WorkItem CopyTask)
takes utility at target [] = []
takes utility at target (source ∷ sources) = taking utility at (record { source = source; target = goal at target source }) ∷ takes utility at target sources

abbrev pub found_target : Manner → Utility → List Text → Text → Aim → List (WorkItem CopyTask)
found_target m utility sources target Inside = takes utility Inside target sources
found_target m utility sources target (Itself stands) = takes utility (Itself stands) target sources
found_target m utility sources target (Nowhere errno) = complaint m target errno ∷ []
