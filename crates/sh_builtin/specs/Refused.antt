-- Calls on descriptors that the map lacks, one after another.
use Rattle.std.specs.Prelude.{◌≡◌, ◌<◌, ℕ, ◌+◌, ◌-◌, length}
use Rattle.rk_calls.specs.declared.turn.Turn.{Turn}
use Rattle.rk_calls.specs.declared.turn.Turn.TheVariants.{Ask, More, Exit}
use Rattle.sh_builtin.specs.declared.builtin.Builtin.{Builtin}
use Rattle.sh_builtin.specs.declared.stage.Move.{Move}
use Rattle.sh_builtin.specs.declared.stage.Progress.{Progress}
use Rattle.sh_builtin.specs.declared.stage.Progress.TheVariants.{Begins, Stands}
use Rattle.sh_builtin.specs.declared.stage.Stage.{Stage}
use Rattle.sh_builtin.specs.declared.stage.Stage.TheVariants.{Writing, Walking, Reading, Printing, Paid, Judging, Over}

-- how many calls may still come without a turn where each of them is refused so: lines on the operands that are left, the Write
-- of an output that is paid for, and a line on its refusal
abbrev pub refusals : Stage → ℕ
refusals (Writing name status) = 1
refusals (Walking operand) = 1
refusals (Reading raw names marks) = 1
refusals (Printing bad at ps operands status) = length bad - at + 1
refusals (Paid ps operands status) = 2
refusals (Judging p negated) = 1
refusals (Over status) = 0

abbrev pub refusals_at : Progress → ℕ
refusals_at (Begins words) = 0
refusals_at (Stands stage) = refusals stage

abbrev pub refusals_of : Builtin → ℕ
refusals_of b = refusals_at b.progress

-- it has had its first turn
abbrev pub HasBegunAt : Progress → Type 0
HasBegunAt (Begins words) = ⊥
HasBegunAt (Stands stage) = Unit {0}

abbrev pub HasBegun : Builtin → Type 0
HasBegun b = HasBegunAt b.progress

-- a call leaves fewer to come
abbrev pub IsFewer : ℕ → Turn → ℕ → Type 0
IsFewer n (Ask call cost) m = m < n
IsFewer n (More cost) m = Unit {0}
IsFewer n (Exit status cost) m = Unit {0}

-- no call comes after it
abbrev pub IsLast : Move → Type 0
IsLast move = refusals move.stage ≡ 0
