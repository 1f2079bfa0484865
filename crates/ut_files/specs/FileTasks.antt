-- What the tasks of `chmod`, `ln`, `mkdir`, `rm`, `rmdir` and `touch` ask, and what their answers bring.
use Rattle.std.specs.Prelude.{ℕ, ◌≤◌, List, take, Bool, true, false, if◌then◌else◌}
use Rattle.std.proofs.Common.{arith}
use Rattle.rk_base.specs.Text.{Text}
use Rattle.rk_calls.specs.declared.answer.Answer.{Answer}
use Rattle.rk_calls.specs.declared.call.Call.{Call}
use Rattle.rk_calls.specs.declared.call.Call.TheVariants as call
use Rattle.rk_calls.specs.declared.call.How.TheVariants.{Append}
use Rattle.rk_calls.specs.Places.{absolute}
use Rattle.rk_calls.specs.Proper.{IsProper}
use Rattle.ut_files.specs.declared.file_task.FileTask.{FileTask}
use Rattle.ut_files.specs.declared.file_task.FileTask.TheVariants.{RemoveDir, MakeDir, MakePrefix, WalkPrefix, SetMode, LookAt, MakeFile, LookInto, ListDir, UnlinkName, FindTarget, CompareTarget, UnlinkTarget, MakeLink}
use Rattle.ut_files.specs.declared.manner.Manner.{Manner}
use Rattle.ut_files.specs.declared.step.WorkItem.{WorkItem}
use Rattle.ut_files.specs.Answers.{refusal, found, names_in, same_in}
use Rattle.ut_files.specs.Complaints.{refused}
use Rattle.ut_files.specs.Linking.{link_call, found_target, compared, unlinked}
use Rattle.ut_files.specs.Making.{is_whole, prefix_mode, made_prefix, walked, looked_at}
use Rattle.ut_files.specs.Modes.{bits}
use Rattle.ut_files.specs.Removing.{removed, looked, listed}
use Rattle.ut_files.specs.Targets.{aim_at}
use Rattle.ut_files.specs.Works.{Rules}

-- the call of each
abbrev pub asks : Manner → FileTask → Call
asks m (RemoveDir operand) = call.Rmdir (absolute m.wd operand)
asks m (MakeDir operand mode) = call.Mkdir (absolute m.wd operand) (bits mode)
asks m (MakePrefix operand end mode) = call.Mkdir (absolute m.wd (take end operand)) (prefix_mode operand end mode)
asks m (WalkPrefix operand end mode) = call.Walk (absolute m.wd (take end operand))
asks m (SetMode operand mode) = call.Chmod (absolute m.wd operand) (bits mode)
asks m (LookAt operand) = call.Stat (absolute m.wd operand) true
asks m (MakeFile operand) = call.Open (absolute m.wd operand) Append
asks m (LookInto operand) = call.Stat (absolute m.wd operand) false
asks m (ListDir operand) = call.List (absolute m.wd operand)
asks m (UnlinkName operand) = call.Unlink (absolute m.wd operand)
asks m (FindTarget sources target) = call.Stat (absolute m.wd target) true
asks m (CompareTarget source target) = call.Same (absolute m.wd source) (absolute m.wd target)
asks m (UnlinkTarget source target) = call.Unlink (absolute m.wd target)
asks m (MakeLink source target) = link_call m source target

abbrev pub opens : FileTask → Bool
opens (MakeFile operand) = true
opens task = false

-- what an answer brings
abbrev pub brings : Manner → ℕ → FileTask → Answer → List (WorkItem FileTask)
brings m number (RemoveDir operand) a = removed m operand (refusal a)
brings m number (MakeDir operand mode) a = refused m operand (refusal a)
brings m number (MakePrefix operand end mode) a = made_prefix m operand end mode (refusal a)
brings m number (WalkPrefix operand end mode) a = walked m operand end mode (refusal a)
brings m number (SetMode operand mode) a = refused m operand (refusal a)
brings m number (LookAt operand) a = looked_at m operand (refusal a)
brings m number (MakeFile operand) a = refused m operand (refusal a)
brings m number (LookInto operand) a = looked m operand (found a)
brings m number (ListDir operand) a = listed m operand (names_in a)
brings m number (UnlinkName operand) a = removed m operand (refusal a)
brings m number (FindTarget sources target) a = found_target m sources target (aim_at sources (found a))
brings m number (CompareTarget source target) a = compared m source target (same_in a)
brings m number (UnlinkTarget source target) a = unlinked m source target (refusal a)
brings m number (MakeLink source target) a = refused m target (refusal a)

-- Their calls are those that a command may make.

proper-bits : (mode : ℕ) → bits mode ≤ 511
proper-bits mode = omega arith

proper-prefix : (whole : Bool) (mode : ℕ) → (if whole then bits mode else 493) ≤ 511
proper-prefix true mode = omega arith
proper-prefix false mode = omega arith

proper-link : (symbolic : Bool) (source target from : Text) → IsProper (if symbolic then call.Symlink source target else call.Link from target)
proper-link true source target from = tt
proper-link false source target from = tt

pub asks-proper : (m : Manner) (task : FileTask) → IsProper (asks m task)
asks-proper m (RemoveDir operand) = tt
asks-proper m (MakeDir operand mode) = proper-bits mode
asks-proper m (MakePrefix operand end mode) = proper-prefix (is_whole operand end) mode
asks-proper m (WalkPrefix operand end mode) = tt
asks-proper m (SetMode operand mode) = proper-bits mode
asks-proper m (LookAt operand) = tt
asks-proper m (MakeFile operand) = tt
asks-proper m (LookInto operand) = tt
asks-proper m (ListDir operand) = tt
asks-proper m (UnlinkName operand) = tt
asks-proper m (FindTarget sources target) = tt
asks-proper m (CompareTarget source target) = tt
asks-proper m (UnlinkTarget source target) = tt
asks-proper m (MakeLink source target) = proper-link m.symbolic source (absolute m.wd target) (absolute m.wd source)

abbrev pub file_rules : Manner → Rules FileTask
file_rules m = record { asks = asks m; proper = asks-proper m; opens = opens; brings = brings m }
