-- What `printf` does (XCU 4, `printf`).
use Rattle.std.specs.Prelude.{ℕ, ◌+◌, List, [], ◌∷◌, codes, Option, Some, None}
use Rattle.rk_base.specs.Text.{Text}
use Rattle.rk_calls.specs.declared.call.Call.TheVariants.{Write}
use Rattle.rk_calls.specs.Brought.{brought}
use Rattle.rk_calls.specs.Lines.{error_line}
use Rattle.rk_calls.specs.Turns.{turns}
use Rattle.sh_operands.specs.declared.format.Piece.{Piece}
use Rattle.sh_operands.specs.Formats.{pieces}
use Rattle.sh_operands.specs.Made.{MadeValue}
use Rattle.sh_operands.specs.Passes.{prints_of}
use Rattle.sh_builtin.specs.declared.name.Name.TheVariants.{Printf}
use Rattle.sh_builtin.specs.Action.{Action, asks}
use Rattle.sh_builtin.specs.Telling.{complains, puts, tells, usage_line, written}

abbrev pub bad_line : Text → Text
bad_line word = error_line (codes "printf") word (codes "not valid")

-- what is left of an output, once all but the call is paid for
abbrev pub writes_made : Text → ℕ → Action
writes_made output status = asks (Write 1 output) 1 (λ a. written Printf status (brought a))

-- a line for each bad number, and then the output, as each builtin puts its own
abbrev pub tells_bad : List Text → Text → ℕ → Action
tells_bad [] output status = puts Printf output status
tells_bad (word ∷ words) output status = asks (Write 2 (bad_line word)) (1 + turns (bad_line word)) (λ a. tells_bad words output status)

abbrev pub status_of : List Text → ℕ
status_of [] = 0
status_of (word ∷ words) = 1

abbrev pub prints_made : MadeValue → Action
prints_made made = tells_bad made.bad made.output (status_of made.bad)

-- a format with a fault is told, and nothing is written
abbrev pub prints_pieces : Text → Option (List Piece) → List Text → Action
prints_pieces format None operands = complains Printf format (codes "not valid") 1
prints_pieces format (Some ps) operands = prints_made (prints_of ps operands)

abbrev pub prints : List Text → Action
prints [] = tells (usage_line (codes "printf")) 1
prints (format ∷ operands) = prints_pieces format (pieces format) operands
