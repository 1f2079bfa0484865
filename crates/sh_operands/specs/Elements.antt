-- What a format of `printf` is made of (XBD 5, "File Format Notation", and XCU 4, `printf`).
use Rattle.std.specs.Prelude.{◌≡◌, ◌≢◌, ℕ, ◌+◌, ◌-◌, ◌*◌, ◌%◌, ◌<◌, ◌≤◌, ◌==◌, List, [], ◌∷◌, ◌++◌, map, length, Bool, true, false, ◌||◌, Option, Some, None, is_some, if◌then◌else◌}
use Rattle.std.specs.List.{list_all, list_any}
use Rattle.rk_base.specs.Text.{Text}
use Rattle.rk_base.specs.Variables.{is_between}
use Rattle.sh_operands.specs.declared.format.Specifier.{Specifier}
use Rattle.sh_operands.specs.declared.format.Specifier.TheVariants as specifier
use Rattle.sh_operands.specs.declared.format.Piece.{Piece}
use Rattle.sh_operands.specs.declared.format.Piece.TheVariants.{Literal, Converted}
use Rattle.sh_operands.specs.Numbers.{is_digit, value_on}

abbrev pub byte_found : {A : Type 0} → ℕ → List (ℕ × A) → Option A
byte_found b [] = None
byte_found b (row ∷ rows) = if b == row.0 then Some row.1 else byte_found b rows

-- `\\ \a \b \f \n \r \t \v`
abbrev pub escapes : List (ℕ × ℕ)
escapes = (92, 92) ∷ (97, 7) ∷ (98, 8) ∷ (102, 12) ∷ (110, 10) ∷ (114, 13) ∷ (116, 9) ∷ (118, 11) ∷ []

-- `s d o x c %`
abbrev pub specifiers : List (ℕ × Specifier)
specifiers = (115, specifier.Text) ∷ (100, specifier.Decimal) ∷ (111, specifier.Octal) ∷ (120, specifier.Hexadecimal) ∷ (99, specifier.Byte) ∷ (37, specifier.Percent) ∷ []

abbrev pub escape_of : ℕ → Option ℕ
escape_of b = byte_found b escapes

abbrev pub specifier_of : ℕ → Option Specifier
specifier_of b = byte_found b specifiers

abbrev pub is_octal : ℕ → Bool
is_octal b = is_between 48 55 b

-- `-` and `0`
abbrev pub is_flag : ℕ → Bool
is_flag b = (b == 45) || (b == 48)

-- An element of a format: a byte; an escape sequence, by its letter and the byte that it stands for; one of octal digits; a
-- backslash that begins neither; or a conversion specification, by its flags, the digits of its width, its letter and the
-- specifier that this is.
pub data Element : Type 0 where
  Byte : ℕ → Element
  Escape : ℕ → ℕ → Element
  Octal : Text → Element
  Backslash : Element
  Specification : Text → Text → ℕ → Specifier → Element

abbrev pub spelling : Element → Text
spelling (Byte b) = b ∷ []
spelling (Escape letter b) = 92 ∷ letter ∷ []
spelling (Octal digits) = 92 ∷ digits
spelling Backslash = 92 ∷ []
spelling (Specification flags width letter k) = 37 ∷ (flags ++ (width ++ letter ∷ []))

abbrev pub begins_octal : Text → Bool
begins_octal [] = false
begins_octal (b ∷ bs) = is_octal b

-- what would begin an escape sequence behind a backslash
abbrev pub begins_escape : Text → Bool
begins_escape [] = false
begins_escape (b ∷ bs) = is_octal b || is_some (escape_of b)

abbrev pub begins_nought : Text → Bool
begins_nought [] = false
begins_nought (b ∷ bs) = b == 48

-- one to three octal digits, all that stand there
pub record AreOctal (digits rest : Text) : Type 0 where
  pub all : list_all is_octal digits ≡ true
  pub some : 1 ≤ length digits
  pub three : length digits ≤ 3
  pub no_more : length digits < 3 → begins_octal rest ≡ false

-- the digits of a width, where there is one: a `0` before them is a flag
pub record IsWidth (digits : Text) : Type 0 where
  pub all : list_all is_digit digits ≡ true
  pub no_flag : begins_nought digits ≡ false
  pub fits : value_on 0 digits ≤ 2147483647

-- an element may stand before this
abbrev pub IsElement : Element → Text → Type 0
IsElement (Byte b) rest = (b ≢ 92) × (b ≢ 37)
IsElement (Escape letter b) rest = escape_of letter ≡ Some b
IsElement (Octal digits) rest = AreOctal digits rest
IsElement Backslash rest = begins_escape rest ≡ false
IsElement (Specification flags width letter k) rest = (list_all is_flag flags ≡ true) × IsWidth width × (specifier_of letter ≡ Some k)

-- a text is made of these
abbrev pub AreElements : List Element → Text → Type 0
AreElements [] text = text ≡ []
AreElements (e ∷ es) text = (rest : Text) × (text ≡ spelling e ++ rest) × IsElement e rest × AreElements es rest

-- the number that octal digits write behind those that write n
abbrev pub octal_on : ℕ → Text → ℕ
octal_on n [] = n
octal_on n (b ∷ bs) = octal_on (8 * n + (b - 48)) bs

abbrev pub has : ℕ → Text → Bool
has b flags = list_any (λ c. c == b) flags

-- octal digits are a byte modulo 256
abbrev pub piece : Element → Piece
piece (Byte b) = Literal b
piece (Escape letter b) = Literal b
piece (Octal digits) = Literal (octal_on 0 digits % 256)
piece Backslash = Literal 92
piece (Specification flags width letter k) = Converted (record { left = has 45 flags; zero = has 48 flags; width = value_on 0 width; specifier = k })

-- a format has these pieces; it has none where a `%` in it begins no conversion specification, or one that is too wide
pub record HasPieces (format : Text) (ps : List Piece) : Type 0 where
  pub elements : List Element
  pub are : AreElements elements format
  pub pieces : ps ≡ map piece elements

-- Which pieces take an operand: each conversion but `%%`.

abbrev pub specifier_takes : Specifier → Bool
specifier_takes specifier.Percent = false
specifier_takes k = true

abbrev pub takes : Piece → Bool
takes (Literal b) = false
takes (Converted c) = specifier_takes c.specifier
