-- Formats of `printf`, read byte by byte.
use Rattle.std.specs.Prelude.{ℕ, ◌+◌, ◌-◌, ◌*◌, ◌%◌, ◌==◌, List, [], ◌∷◌, ◌++◌, Bool, true, false, ◌&&◌, Option, Some, None, if◌then◌else◌, nat_lt, nat_le}
use Rattle.rk_base.specs.Text.{Text}
use Rattle.sh_operands.specs.declared.format.Specifier.{Specifier}
use Rattle.sh_operands.specs.declared.format.Piece.{Piece}
use Rattle.sh_operands.specs.declared.format.Piece.TheVariants.{Literal, Converted}
use Rattle.sh_operands.specs.declared.format.Reading.{Reading}
use Rattle.sh_operands.specs.declared.format.Reading.TheVariants.{Plain, Escape, Octal, Flags, Width}
use Rattle.sh_operands.specs.Elements.{escape_of, specifier_of, is_octal}
use Rattle.sh_operands.specs.Numbers.{is_digit}

-- the pieces so far, and how the next byte is read; None where it makes no conversion
pub record Step : Type 0 where
  pub pieces : List Piece
  pub next : Option Reading

abbrev pub to : Reading → List Piece → Step
to reading done = record { pieces = done; next = Some reading }

abbrev pub with_byte : ℕ → List Piece → List Piece
with_byte b done = done ++ Literal b ∷ []

abbrev pub plain : ℕ → List Piece → Step
plain b done = if b == 92 then to Escape done else (if b == 37 then to (Flags false false) done else to Plain (with_byte b done))

-- an unknown escape is itself
abbrev pub known : Option ℕ → ℕ → List Piece → Step
known (Some c) b done = to Plain (with_byte c done)
known None b done = plain b (with_byte 92 done)

-- behind a backslash
abbrev pub escaped : ℕ → List Piece → Step
escaped b done = if is_octal b then to (Octal 1 (b - 48)) done else known (escape_of b) b done

-- one to three octal digits, modulo 256
abbrev pub octal : ℕ → ℕ → ℕ → List Piece → Step
octal n value b done = if is_octal b && nat_lt n 3 then to (Octal (n + 1) ((8 * value + (b - 48)) % 256)) done else plain b (with_byte value done)

abbrev pub converts : Option Specifier → Bool → Bool → ℕ → List Piece → Step
converts None left zero width done = record { pieces = done; next = None }
converts (Some k) left zero width done = to Plain (done ++ Converted (record { left = left; zero = zero; width = width; specifier = k }) ∷ [])

-- a width with one digit more: it is at most 2^31 - 1
abbrev pub wider : ℕ → ℕ → Option ℕ
wider width b = if nat_le (10 * width + (b - 48)) 2147483647 then Some (10 * width + (b - 48)) else None

abbrev pub with_width : Bool → Bool → Option ℕ → Option Reading
with_width left zero None = None
with_width left zero (Some width) = Some (Width left zero width)

-- a width, and then the letter
abbrev pub widened : Bool → Bool → ℕ → ℕ → List Piece → Step
widened left zero width b done = if is_digit b then record { pieces = done; next = with_width left zero (wider width b) } else converts (specifier_of b) left zero width done

-- behind a `%`: flags, then a width
abbrev pub flagged : Bool → Bool → ℕ → List Piece → Step
flagged left zero b done = if b == 45 then to (Flags true zero) done else (if b == 48 then to (Flags left true) done else widened left zero 0 b done)

abbrev pub step : Reading → ℕ → List Piece → Step
step Plain b done = plain b done
step Escape b done = escaped b done
step (Octal n value) b done = octal n value b done
step (Flags left zero) b done = flagged left zero b done
step (Width left zero width) b done = widened left zero width b done

-- a last backslash is itself; a `%` that begins no conversion is a fault
abbrev pub finished : Reading → List Piece → Option (List Piece)
finished Plain done = Some done
finished Escape done = Some (with_byte 92 done)
finished (Octal n value) done = Some (with_byte value done)
finished (Flags left zero) done = None
finished (Width left zero width) done = None

abbrev pub goes_on : Step → (Reading → List Piece → Option (List Piece)) → Option (List Piece)
goes_on s rest = elim s.next [ None ↦ None | Some reading ↦ rest reading s.pieces ]

abbrev pub pieces_from : Reading → Text → List Piece → Option (List Piece)
pieces_from reading [] done = finished reading done
pieces_from reading (b ∷ bs) done = goes_on (step reading b done) (λ next done. pieces_from next bs done)

-- the pieces of a format; None where a `%` in it begins no conversion, or one that is too wide
abbrev pub pieces : Text → Option (List Piece)
pieces format = pieces_from Plain format []
