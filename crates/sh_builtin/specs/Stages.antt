-- What the machine of builtins does at each stage.
use Rattle.std.specs.Prelude.{◌≡◌, ℕ, Bool, drop, is_some}
use Rattle.rk_calls.specs.declared.answer.Answer.{Answer}
use Rattle.rk_calls.specs.Brought.{brought}
use Rattle.rk_calls.specs.Talk.{Says}
use Rattle.sh_vars.specs.declared.env.Env.{Env}
use Rattle.sh_builtin.specs.declared.stage.Stage.{Stage}
use Rattle.sh_builtin.specs.declared.stage.Stage.TheVariants.{Writing, Walking, Reading, Printing, Paid, Judging, Over}
use Rattle.sh_builtin.specs.declared.stage.Move.{Move}
use Rattle.sh_builtin.specs.declared.stage.Progress.{Progress}
use Rattle.sh_builtin.specs.declared.stage.Progress.TheVariants.{Begins, Stands}
use Rattle.sh_builtin.specs.declared.builtin.Builtin.{Builtin}
use Rattle.sh_builtin.specs.declared.command.BuiltinCommand.{BuiltinCommand}
use Rattle.sh_builtin.specs.Builtins.{does}
use Rattle.sh_builtin.specs.Cds.{walked}
use Rattle.sh_builtin.specs.Commands.{alone}
use Rattle.sh_builtin.specs.Action.{Slots, Ended, Action, ends, after, heard}
use Rattle.sh_operands.specs.Passes.{prints_of}
use Rattle.sh_builtin.specs.Prints.{tells_bad, writes_made}
use Rattle.sh_builtin.specs.Reads.{line_read, reads_on}
use Rattle.sh_builtin.specs.Telling.{written}
use Rattle.sh_builtin.specs.Tests.{holds, status_of, inverted_if}

-- by the answer
abbrev pub stage_does : Stage → Answer → Action
stage_does (Writing name status) a = written name status (brought a)
stage_does (Walking operand) a = walked operand a
stage_does (Reading raw names marks) a = line_read reads_on raw names marks (brought a)
stage_does (Printing bad at ps operands status) a = tells_bad (drop at bad) (prints_of ps operands).output status
stage_does (Paid ps operands status) a = writes_made (prints_of ps operands).output status
stage_does (Judging p negated) a = ends (status_of (inverted_if negated (holds p a)))
stage_does (Over status) a = ends status

-- this is done by a turn and by what comes after it
abbrev pub IsDoneBy : Action → Env → Move → Env → Type 0
IsDoneBy x env move env' =
    (slots : Slots) (k : Ended) (p : ℕ) → x slots k env p ≡ after slots move.turn (λ a. stage_does move.stage a slots k) k env' p

-- whether the map has descriptor 1
abbrev pub HasOutput : Slots → Bool → Type 0
HasOutput slots has_output = has_output ≡ is_some (slots 1)

-- this is done so where the map has descriptor 1, or where it lacks it
abbrev pub IsDoneWhere : Bool → Action → Env → Move → Env → Type 0
IsDoneWhere has_output x env move env' =
    (slots : Slots) (k : Ended) (p : ℕ) → HasOutput slots has_output → x slots k env p ≡ after slots move.turn (λ a. stage_does move.stage a slots k) k env' p

abbrev pub progress_does : Progress → Answer → Action
progress_does (Begins words) a = does words
progress_does (Stands stage) a = stage_does stage a

abbrev pub builtin_does : Builtin → Answer → Action
builtin_does b a = progress_does b.progress a

-- what the machine says as a command by itself: it hears the answer first
abbrev pub command_talk : BuiltinCommand → Answer → Says
command_talk c a = alone (builtin_does c.builtin a) (heard a c.env)
