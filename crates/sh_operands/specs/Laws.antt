-- Laws of `printf`.
use Rattle.std.specs.Prelude.{◌≡◌, ◌↔◌, List, Some}
use Rattle.rk_base.specs.Text.{Text}
use Rattle.sh_operands.specs.declared.format.Piece.{Piece}
use Rattle.sh_operands.specs.Elements.{HasPieces}
use Rattle.sh_operands.specs.Formats.{pieces}
use Rattle.sh_operands.specs.Made.{MadeValue}
use Rattle.sh_operands.specs.Passes.{prints_of}
use Rattle.sh_operands.specs.Uses.{IsPrinted}

-- a format has the pieces that are read of it and no others; where none are read it has none
abbrev pub OneReading : Type 0
OneReading = (format : Text) (ps : List Piece) → HasPieces format ps ↔ (pieces format ≡ Some ps)

-- what is made of operands is what a format makes of them, and nothing else is
abbrev pub OneOutput : Type 0
OneOutput = (ps : List Piece) (operands : List Text) → IsPrinted ps operands (prints_of ps operands) × ((other : MadeValue) → IsPrinted ps operands other → other ≡ prints_of ps operands)
