-- `mkdir`, `chmod` and `touch` (XCU, "Utilities").
use Rattle.std.specs.Prelude.{ℕ, List, [], ◌∷◌, length, Bool, leb, Option, Some, None, if◌then◌else◌}
use Rattle.rk_base.specs.Text.{Text}
use Rattle.rk_base.specs.declared.errno.Errno.{Errno}
use Rattle.rk_base.specs.declared.errno.Errno.TheVariants.{Exists}
use Rattle.ut_files.specs.declared.file_task.FileTask.{FileTask}
use Rattle.ut_files.specs.declared.file_task.FileTask.TheVariants.{MakePrefix, WalkPrefix, MakeFile}
use Rattle.ut_files.specs.declared.manner.Manner.{Manner}
use Rattle.ut_files.specs.declared.step.WorkItem.{WorkItem}
use Rattle.ut_files.specs.declared.step.WorkItem.TheVariants.{Do}
use Rattle.ut_files.specs.Answers.{is_exists, is_no_entry}
use Rattle.ut_files.specs.Complaints.{complaint}
use Rattle.ut_files.specs.Modes.{bits}
use Rattle.ut_files.specs.Operands.{longer}

-- whether a prefix that ends there is the whole operand
abbrev pub is_whole : Text → ℕ → Bool
is_whole operand end = leb (length operand) end

-- a directory on the way has the mode 0755
abbrev pub prefix_mode : Text → ℕ → ℕ → ℕ
prefix_mode operand end mode = if is_whole operand end then bits mode else 493

-- the next prefix, where this isn't the whole
abbrev pub next_prefix : Text → ℕ → ℕ → List (WorkItem FileTask)
next_prefix operand end mode = if is_whole operand end then [] else Do (MakePrefix operand (longer operand end) mode) ∷ []

-- a prefix was refused: where something stands it may be a directory, and else the operand ends
abbrev pub prefix_refused : Manner → Text → ℕ → ℕ → Errno → List (WorkItem FileTask)
prefix_refused m operand end mode errno = if is_exists errno then Do (WalkPrefix operand end mode) ∷ [] else complaint m operand errno ∷ []

abbrev pub made_prefix : Manner → Text → ℕ → ℕ → Option Errno → List (WorkItem FileTask)
made_prefix m operand end mode None = next_prefix operand end mode
made_prefix m operand end mode (Some errno) = prefix_refused m operand end mode errno

-- what stands is passed over where it is a directory
abbrev pub walked : Manner → Text → ℕ → ℕ → Option Errno → List (WorkItem FileTask)
walked m operand end mode None = next_prefix operand end mode
walked m operand end mode (Some errno) = complaint m operand Exists ∷ []

-- where there is no file it is made
abbrev pub untouched : Manner → Text → Errno → List (WorkItem FileTask)
untouched m operand errno = if is_no_entry errno then Do (MakeFile operand) ∷ [] else complaint m operand errno ∷ []

-- a file that is touched: one that is there stays as it is
abbrev pub looked_at : Manner → Text → Option Errno → List (WorkItem FileTask)
looked_at m operand None = []
looked_at m operand (Some errno) = untouched m operand errno
