-- How long an output is and which operands are no numbers, before any of it is made.
use Rattle.std.specs.Prelude.{ℕ, zero, suc, ◌+◌, ◌*◌, List, [], ◌∷◌, drop, length, slice_get, Option, None, if◌then◌else◌}
use Rattle.rk_base.specs.Text.{Text}
use Rattle.sh_operands.specs.declared.format.Conversion.{Conversion}
use Rattle.sh_operands.specs.declared.format.Piece.{Piece}
use Rattle.sh_operands.specs.declared.format.Piece.TheVariants.{Literal, Converted}
use Rattle.sh_operands.specs.declared.length.Measure.{Measure}
use Rattle.sh_operands.specs.Elements.{specifier_takes}
use Rattle.sh_operands.specs.Made.{MadeValue, nothing}
use Rattle.sh_operands.specs.Printed.{converted, noted}

-- of an output that is made only the length is kept
abbrev pub measure_of : MadeValue → Measure
measure_of made = record { bytes = length made.output; told = record { output = []; bad = made.bad } }

abbrev pub longer : ℕ → Measure → Measure
longer n m = record m { bytes = m.bytes + n }

abbrev pub counted : Conversion → Option Text → Measure → Measure
counted c operand m = record { bytes = m.bytes + length (converted c.specifier c operand); told = noted c operand m.told }

-- the format once
abbrev pub measured : List Piece → List Text → Measure → Measure
measured [] operands m = m
measured (Literal b ∷ ps) operands m = measured ps operands (longer 1 m)
measured (Converted c ∷ ps) operands m =
    if specifier_takes c.specifier then measured ps (drop 1 operands) (counted c (slice_get operands 0) m) else measured ps operands (counted c None m)

-- so many times
abbrev pub measures : ℕ → ℕ → List Piece → List Text → Measure
measures zero n ps operands = measure_of nothing
measures (suc i) n ps operands = measured ps (drop (i * n) operands) (measures i n ps operands)
