-- What the tasks of `mv` and `cp` ask, and what their answers bring.
use Rattle.std.specs.Prelude.{ℕ, ◌≤◌, List, Bool, true, false, not}
use Rattle.std.proofs.Common.{arith}
use Rattle.rk_calls.specs.declared.answer.Answer.{Answer}
use Rattle.rk_calls.specs.declared.call.Call.{Call}
use Rattle.rk_calls.specs.declared.call.Call.TheVariants as call
use Rattle.rk_calls.specs.declared.call.How.TheVariants as how
use Rattle.rk_calls.specs.Brought.{brought}
use Rattle.rk_calls.specs.Places.{absolute}
use Rattle.rk_calls.specs.Proper.{IsProper}
use Rattle.ut_copy.specs.declared.copy_task.CopyTask.{CopyTask}
use Rattle.ut_copy.specs.declared.copy_task.CopyTask.TheVariants.{FindTarget, Move, LookSource, LookTarget, Compare, OpenSource, ReadSource, OpenTarget, WriteTarget, SetMode, WalkSource, WalkParent, ListSource, MakeTarget, ReadLink, MakeLink}
use Rattle.ut_copy.specs.Copying.{found_source, found_there, compared, opened_source, read_source, opened_target, written}
use Rattle.ut_copy.specs.Deep.{parent, walked_source, walked_parent, listed, made_target, read_link}
use Rattle.ut_copy.specs.Moving.{found_target}
use Rattle.ut_files.specs.declared.manner.Manner.{Manner}
use Rattle.ut_files.specs.declared.step.WorkItem.{WorkItem}
use Rattle.ut_files.specs.Answers.{refusal, found, names_in, text_in, place_in, same_in}
use Rattle.ut_files.specs.Complaints.{refused}
use Rattle.ut_files.specs.Modes.{bits}
use Rattle.ut_files.specs.Targets.{aim_at}
use Rattle.ut_files.specs.Works.{Rules}

-- the call of each; without `-R` a source is followed
abbrev pub asks : Manner → CopyTask → Call
asks m (FindTarget utility sources target) = call.Stat (absolute m.wd target) true
asks m (Move pair) = call.Rename (absolute m.wd pair.source) (absolute m.wd pair.target)
asks m (LookSource pair stands alone) = call.Stat (absolute m.wd pair.source) (not m.recursive)
asks m (LookTarget pair kind mode alone) = call.Stat (absolute m.wd pair.target) true
asks m (Compare pair mode) = call.Same (absolute m.wd pair.source) (absolute m.wd pair.target)
asks m (OpenSource pair mode made) = call.Open (absolute m.wd pair.source) how.Read
asks m (ReadSource pair mode made number) = call.Read number
asks m (OpenTarget pair mode made bytes) = call.Open (absolute m.wd pair.target) how.Make
asks m (WriteTarget pair mode made bytes number) = call.Write number bytes
asks m (SetMode pair mode) = call.Chmod (absolute m.wd pair.target) (bits mode)
asks m (WalkSource pair mode made) = call.Walk (absolute m.wd pair.source)
asks m (WalkParent pair mode made place) = call.Walk (parent m pair.target)
asks m (ListSource pair mode made) = call.List (absolute m.wd pair.source)
asks m (MakeTarget pair mode names) = call.Mkdir (absolute m.wd pair.target) 493
asks m (ReadLink pair) = call.ReadLink (absolute m.wd pair.source)
asks m (MakeLink pair text) = call.Symlink text (absolute m.wd pair.target)

abbrev pub opens : CopyTask → Bool
opens (OpenSource pair mode made) = true
opens (OpenTarget pair mode made bytes) = true
opens task = false

-- what an answer brings
abbrev pub brings : Manner → ℕ → CopyTask → Answer → List (WorkItem CopyTask)
brings m number (FindTarget utility sources target) a = found_target m utility sources target (aim_at sources (found a))
brings m number (Move pair) a = refused m pair.source (refusal a)
brings m number (LookSource pair stands alone) a = found_source m pair stands alone (found a)
brings m number (LookTarget pair kind mode alone) a = found_there m pair kind mode alone (refusal a)
brings m number (Compare pair mode) a = compared m pair mode (same_in a)
brings m number (OpenSource pair mode made) a = opened_source m pair mode made number (refusal a)
brings m number (ReadSource pair mode made from) a = read_source m pair mode made (brought a)
brings m number (OpenTarget pair mode made bytes) a = opened_target m pair mode made bytes number (refusal a)
brings m number (WriteTarget pair mode made bytes to) a = written m pair mode made (refusal a)
brings m number (SetMode pair mode) a = refused m pair.target (refusal a)
brings m number (WalkSource pair mode made) a = walked_source m pair mode made (place_in a)
brings m number (WalkParent pair mode made place) a = walked_parent m pair mode made place (place_in a)
brings m number (ListSource pair mode made) a = listed m pair mode made (names_in a)
brings m number (MakeTarget pair mode names) a = made_target m pair mode names (refusal a)
brings m number (ReadLink pair) a = read_link m pair (text_in a)
brings m number (MakeLink pair text) a = refused m pair.target (refusal a)

-- Their calls are those that a command may make.

proper-bits : (mode : ℕ) → bits mode ≤ 511
proper-bits mode = omega arith

proper-default : (m : Manner) → 493 ≤ 511
proper-default m = omega arith

pub asks-proper : (m : Manner) (task : CopyTask) → IsProper (asks m task)
asks-proper m (FindTarget utility sources target) = tt
asks-proper m (Move pair) = tt
asks-proper m (LookSource pair stands alone) = tt
asks-proper m (LookTarget pair kind mode alone) = tt
asks-proper m (Compare pair mode) = tt
asks-proper m (OpenSource pair mode made) = tt
asks-proper m (ReadSource pair mode made from) = tt
asks-proper m (OpenTarget pair mode made bytes) = tt
asks-proper m (WriteTarget pair mode made bytes to) = tt
asks-proper m (SetMode pair mode) = proper-bits mode
asks-proper m (WalkSource pair mode made) = tt
asks-proper m (WalkParent pair mode made place) = tt
asks-proper m (ListSource pair mode made) = tt
asks-proper m (MakeTarget pair mode names) = proper-default m
asks-proper m (ReadLink pair) = tt
asks-proper m (MakeLink pair text) = tt

abbrev pub copy_rules : Manner → Rules CopyTask
copy_rules m = record { asks = asks m; proper = asks-proper m; opens = opens; brings = brings m }
