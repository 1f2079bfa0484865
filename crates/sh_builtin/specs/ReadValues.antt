-- Which values the variables of `read` have, by the fields of its line (XCU 4, `read`).
use Rattle.std.specs.Prelude.{◌≡◌, List, [], ◌∷◌, ◌++◌, map, reverse, if◌then◌else◌}
use Rattle.rk_base.specs.Text.{Text}
use Rattle.sh_split.specs.declared.mark.MarkKind.{MarkKind}
use Rattle.sh_split.specs.declared.mark.MarkKind.TheVariants.{White, Matter}
use Rattle.sh_split.specs.Cutting.{IsRun, NotFirst, Delimits}
use Rattle.sh_split.specs.Marks.{kind_of}
use Rattle.sh_builtin.specs.declared.marks.Marked.{Marked}

abbrev pub bytes_of : List Marked → Text
bytes_of = map (λ (m : Marked). m.byte)

-- a byte of the line is to the cutting what it is where an expansion gave it, but one that a backslash quoted delimits nothing
abbrev pub kind_in : Text → Marked → MarkKind
kind_in ifs m = if m.quoted then Matter else kind_of ifs m.byte

-- a field, and what delimits it
pub record Part : Type 0 where
  pub field : List Marked
  pub delimiter : List Marked

-- fields and their delimiters, one after another
abbrev pub whole : List Part → List Marked
whole [] = []
whole (p ∷ ps) = p.field ++ (p.delimiter ++ whole ps)

-- they are delimited as the fields of an expanded word are (XCU 2.6.5)
abbrev pub AreParts : Text → List Part → Type 0
AreParts ifs [] = Unit {0}
AreParts ifs (p ∷ ps) = IsRun (kind_in ifs) Matter p.field × Delimits (kind_in ifs) p.field p.delimiter (whole ps) × AreParts ifs ps

-- the line is cut into these: white space at its beginning is left out
pub record IsCutInto (ifs : Text) (line : List Marked) (parts : List Part) : Type 0 where
  pub lead : List Marked
  pub all : line ≡ lead ++ whole parts
  pub white : IsRun (kind_in ifs) White lead
  pub no_more : NotFirst (kind_in ifs) White (whole parts)
  pub are : AreParts ifs parts

-- the same without IFS white space at its end
pub record IsTrimmed (ifs : Text) (text value : List Marked) : Type 0 where
  pub tail : List Marked
  pub all : text ≡ value ++ tail
  pub white : IsRun (kind_in ifs) White tail
  pub no_more : NotFirst (kind_in ifs) White (reverse value)

-- The value of a variable, by the fields from its own on, where these variables come after it: no bytes where no field is
-- left; its field; but where it is the last and there are more fields, its field, what delimits that, and the other fields with
-- their delimiters, without white space at the end.
abbrev pub IsValue : Text → List Text → List Part → Text → Type 0
IsValue ifs later [] value = value ≡ []
IsValue ifs later (p ∷ []) value = value ≡ bytes_of p.field
IsValue ifs [] (p ∷ q ∷ ps) value = (marks : List Marked) × IsTrimmed ifs (whole (p ∷ q ∷ ps)) marks × (value ≡ bytes_of marks)
IsValue ifs (x ∷ later) (p ∷ q ∷ ps) value = value ≡ bytes_of p.field

abbrev pub behind_first : List Part → List Part
behind_first [] = []
behind_first (p ∷ ps) = ps

-- a value for each variable, from left to right
abbrev pub HaveValues : Text → List Text → List Part → List Text → Type 0
HaveValues ifs [] parts values = values ≡ []
HaveValues ifs (x ∷ xs) parts [] = ⊥
HaveValues ifs (x ∷ xs) parts (value ∷ values) = IsValue ifs xs parts value × HaveValues ifs xs (behind_first parts) values

-- these are the values of these variables, by the fields of the line
pub record AreReadValues (ifs : Text) (names : List Text) (line : List Marked) (values : List Text) : Type 0 where
  pub parts : List Part
  pub cut : IsCutInto ifs line parts
  pub are : HaveValues ifs names parts values
