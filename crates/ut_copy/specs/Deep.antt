-- How `cp` copies a directory and a link (XCU `cp`).
use Rattle.std.specs.Prelude.{ℕ, List, [], ◌∷◌, ◌++◌, Bool, true, false, Option, Some, None, Result, Ok, Err, if◌then◌else◌}
use Rattle.rk_base.specs.Text.{Text, is_within}
use Rattle.rk_base.specs.declared.errno.Errno.{Errno}
use Rattle.rk_base.specs.declared.errno.Errno.TheVariants.{Invalid}
use Rattle.rk_calls.specs.Places.{absolute}
use Rattle.ut_copy.specs.declared.copy_task.CopyTask.{CopyTask}
use Rattle.ut_copy.specs.declared.copy_task.CopyTask.TheVariants.{LookSource, WalkParent, ListSource, MakeTarget, MakeLink}
use Rattle.ut_copy.specs.declared.pair.Pair.{Pair}
use Rattle.ut_files.specs.declared.manner.Manner.{Manner}
use Rattle.ut_files.specs.declared.step.WorkItem.{WorkItem}
use Rattle.ut_files.specs.declared.step.WorkItem.TheVariants.{Do}
use Rattle.ut_files.specs.Complaints.{complaint}
use Rattle.ut_files.specs.Operands.{below, dirname}
use Rattle.ut_copy.specs.Copying.{carries}

-- the directory that a target is to stand in
abbrev pub parent : Manner → Text → Text
parent m target = dirname (absolute m.wd target)

abbrev pub walked_source : Manner → Pair → ℕ → Bool → Result Text Errno → List (WorkItem CopyTask)
walked_source m pair mode made (Ok place) = Do (WalkParent pair mode made place) ∷ []
walked_source m pair mode made (Err errno) = complaint m pair.source errno ∷ []

-- a directory isn't copied into itself, nor below itself
abbrev pub goes_into : Manner → Pair → ℕ → Bool → Text → Text → List (WorkItem CopyTask)
goes_into m pair mode made place into = if is_within place into then complaint m pair.source Invalid ∷ [] else Do (ListSource pair mode made) ∷ []

abbrev pub walked_parent : Manner → Pair → ℕ → Bool → Text → Result Text Errno → List (WorkItem CopyTask)
walked_parent m pair mode made place (Ok into) = goes_into m pair mode made place into
walked_parent m pair mode made place (Err errno) = complaint m pair.target errno ∷ []

-- a name in a directory and in its copy
abbrev pub inside : Pair → Text → Pair
inside pair name = record { source = below pair.source name; target = below pair.target name }

-- each name by the same rule
abbrev pub entries : Pair → List Text → List (WorkItem CopyTask)
entries pair [] = []
entries pair (name ∷ names) = Do (LookSource (inside pair name) None false) ∷ entries pair names

abbrev pub listed_names : Pair → ℕ → Bool → List Text → List (WorkItem CopyTask)
listed_names pair mode true names = Do (MakeTarget pair mode names) ∷ []
listed_names pair mode false names = entries pair names

-- the directory is made where nothing stood, with the mode 0755, and gets its mode after all in it
abbrev pub listed : Manner → Pair → ℕ → Bool → Result (List Text) Errno → List (WorkItem CopyTask)
listed m pair mode made (Ok names) = listed_names pair mode made names
listed m pair mode made (Err errno) = complaint m pair.source errno ∷ []

abbrev pub made_target : Manner → Pair → ℕ → List Text → Option Errno → List (WorkItem CopyTask)
made_target m pair mode names None = entries pair names ++ carries pair mode 493 true
made_target m pair mode names (Some errno) = complaint m pair.target errno ∷ []

-- a link is copied as a link
abbrev pub read_link : Manner → Pair → Result Text Errno → List (WorkItem CopyTask)
read_link m pair (Ok text) = Do (MakeLink pair text) ∷ []
read_link m pair (Err errno) = complaint m pair.source errno ∷ []
