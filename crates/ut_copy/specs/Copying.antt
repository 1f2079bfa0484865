-- How `cp` copies a file (XCU `cp`).
use Rattle.std.specs.Prelude.{ℕ, List, [], ◌∷◌, Bool, true, false, not, ◌&&◌, ◌==◌, Option, Some, None, Result, Ok, Err, if◌then◌else◌}
use Rattle.rk_base.specs.Text.{Text}
use Rattle.rk_base.specs.Canonical.{is_empty}
use Rattle.rk_base.specs.declared.errno.Errno.{Errno}
use Rattle.rk_base.specs.declared.errno.Errno.TheVariants.{IsDir, Invalid}
use Rattle.rk_base.specs.declared.file_type.FileType.{FileType}
use Rattle.rk_base.specs.declared.file_type.FileType.TheVariants.{File, Dir, Link}
use Rattle.ut_copy.specs.declared.copy_task.CopyTask.{CopyTask}
use Rattle.ut_copy.specs.declared.copy_task.CopyTask.TheVariants.{LookTarget, Compare, OpenSource, ReadSource, OpenTarget, WriteTarget, SetMode, WalkSource, ListSource, ReadLink}
use Rattle.ut_copy.specs.declared.pair.Pair.{Pair}
use Rattle.ut_files.specs.declared.answers.Stood.{Stood}
use Rattle.ut_files.specs.declared.manner.Manner.{Manner}
use Rattle.ut_files.specs.declared.step.WorkItem.{WorkItem}
use Rattle.ut_files.specs.declared.step.WorkItem.TheVariants.{Do}
use Rattle.ut_files.specs.Complaints.{complaint}

-- a file: where something stands at the target, that isn't the file itself
abbrev pub copies_file : Pair → ℕ → Bool → List (WorkItem CopyTask)
copies_file pair mode true = Do (OpenSource pair mode true) ∷ []
copies_file pair mode false = Do (Compare pair mode) ∷ []

-- a directory, with `-R`; where it is an operand it isn't copied into itself
abbrev pub copies_dir : Manner → Pair → ℕ → Bool → Bool → List (WorkItem CopyTask)
copies_dir m pair mode made alone =
    if m.recursive then (if alone then Do (WalkSource pair mode made) ∷ [] else Do (ListSource pair mode made) ∷ []) else complaint m pair.source IsDir ∷ []

-- by what the source is; `made` where nothing stood at the target
abbrev pub copies : Manner → Pair → FileType → ℕ → Bool → Bool → List (WorkItem CopyTask)
copies m pair File mode made alone = copies_file pair mode made
copies m pair Dir mode made alone = copies_dir m pair mode made alone
copies m pair Link mode made alone = Do (ReadLink pair) ∷ []

-- the target is looked at where it isn't known whether it stands
abbrev pub looks : Manner → Pair → FileType → ℕ → Option Bool → Bool → List (WorkItem CopyTask)
looks m pair kind mode None alone = Do (LookTarget pair kind mode alone) ∷ []
looks m pair kind mode (Some stands) alone = copies m pair kind mode (not stands) alone

abbrev pub found_source : Manner → Pair → Option Bool → Bool → Result Stood Errno → List (WorkItem CopyTask)
found_source m pair stands alone (Ok s) = looks m pair s.kind s.mode stands alone
found_source m pair stands alone (Err errno) = complaint m pair.source errno ∷ []

-- what can't be looked at counts as absent
abbrev pub found_there : Manner → Pair → FileType → ℕ → Bool → Option Errno → List (WorkItem CopyTask)
found_there m pair kind mode alone None = copies m pair kind mode false alone
found_there m pair kind mode alone (Some errno) = copies m pair kind mode true alone

-- whether both are one
abbrev pub compared : Manner → Pair → ℕ → Result Bool Errno → List (WorkItem CopyTask)
compared m pair mode (Ok true) = complaint m pair.source Invalid ∷ []
compared m pair mode (Ok false) = Do (OpenSource pair mode false) ∷ []
compared m pair mode (Err errno) = complaint m pair.source errno ∷ []

-- it has the number that was next
abbrev pub opened_source : Manner → Pair → ℕ → Bool → ℕ → Option Errno → List (WorkItem CopyTask)
opened_source m pair mode made number None = Do (ReadSource pair mode made number) ∷ []
opened_source m pair mode made number (Some errno) = complaint m pair.source errno ∷ []

abbrev pub read_source : Manner → Pair → ℕ → Bool → Result Text Errno → List (WorkItem CopyTask)
read_source m pair mode made (Ok bytes) = Do (OpenTarget pair mode made bytes) ∷ []
read_source m pair mode made (Err errno) = complaint m pair.source errno ∷ []

-- a mode is carried over to what was made, where it isn't the one that it was made with
abbrev pub carries : Pair → ℕ → ℕ → Bool → List (WorkItem CopyTask)
carries pair mode default made = if made && not (mode == default) then Do (SetMode pair mode) ∷ [] else []

-- a file is made with the mode 0644
abbrev pub file_done : Pair → ℕ → Bool → List (WorkItem CopyTask)
file_done pair mode made = carries pair mode 420 made

abbrev pub writes : Pair → ℕ → Bool → Text → ℕ → List (WorkItem CopyTask)
writes pair mode made bytes number = if is_empty bytes then file_done pair mode made else Do (WriteTarget pair mode made bytes number) ∷ []

abbrev pub opened_target : Manner → Pair → ℕ → Bool → Text → ℕ → Option Errno → List (WorkItem CopyTask)
opened_target m pair mode made bytes number None = writes pair mode made bytes number
opened_target m pair mode made bytes number (Some errno) = complaint m pair.target errno ∷ []

abbrev pub written : Manner → Pair → ℕ → Bool → Option Errno → List (WorkItem CopyTask)
written m pair mode made None = file_done pair mode made
written m pair mode made (Some errno) = complaint m pair.target errno ∷ []
