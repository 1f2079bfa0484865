-- The uses of a format, by their number.
use Rattle.std.specs.Prelude.{ℕ, zero, suc, ◌*◌, ◌==◌, max, List, drop, length, if◌then◌else◌}
use Rattle.std.specs.Int.{div_ceil}
use Rattle.rk_base.specs.Text.{Text}
use Rattle.sh_operands.specs.declared.format.Piece.{Piece}
use Rattle.sh_operands.specs.Made.{MadeValue, nothing}
use Rattle.sh_operands.specs.Printed.{pass}
use Rattle.sh_operands.specs.Uses.{taken}

-- how often, where it takes so many of so many
abbrev pub how_often : ℕ → ℕ → ℕ
how_often n operands = if n == 0 then 1 else max 1 (div_ceil operands n)

abbrev pub passes : ℕ → ℕ → List Piece → List Text → MadeValue
passes zero n ps operands = nothing
passes (suc i) n ps operands = pass ps (drop (i * n) operands) (passes i n ps operands)

abbrev pub prints_of : List Piece → List Text → MadeValue
prints_of ps operands = passes (how_often (taken ps) (length operands)) (taken ps) ps operands
