-- Which line `read` reads (XCU 4, `read`).
use Rattle.std.specs.Prelude.{◌≡◌, ◌≢◌, ◌⊎◌, ℕ, List, [], ◌∷◌, ◌++◌, Bool, true, false}
use Rattle.rk_base.specs.Text.{Text}
use Rattle.sh_builtin.specs.declared.marks.Marked.{Marked}
use Rattle.sh_builtin.specs.declared.line.End.{End}
use Rattle.sh_builtin.specs.declared.line.End.TheVariants.{Whole, Short, Continued}

abbrev pub plain : ℕ → Marked
plain b = record { byte = b; quoted = false }

abbrev pub quoted : ℕ → Marked
quoted b = record { byte = b; quoted = true }

-- the bytes of a line, with those that a backslash quoted marked, and how it ended
pub record Line : Type 0 where
  pub marks : List Marked
  pub end : End

-- What a line is made of: bytes, bytes that a backslash quotes, and joints, a backslash and a newline by which a line goes on.
pub data Piece : Type 0 where
  Byte : ℕ → Piece
  Escaped : ℕ → Piece
  Joint : Piece

-- a byte is no newline, and a backslash with `-r` alone, by which no backslash quotes or joins
abbrev pub IsPiece : Bool → Piece → Type 0
IsPiece raw (Byte b) = (b ≢ 10) × (b ≡ 92 → raw ≡ true)
IsPiece raw (Escaped b) = (b ≢ 10) × (raw ≡ false)
IsPiece raw Joint = raw ≡ false

abbrev pub ArePieces : Bool → List Piece → Type 0
ArePieces raw [] = Unit {0}
ArePieces raw (p ∷ ps) = IsPiece raw p × ArePieces raw ps

abbrev pub spelling : Piece → Text
spelling (Byte b) = b ∷ []
spelling (Escaped b) = 92 ∷ b ∷ []
spelling Joint = 92 ∷ 10 ∷ []

abbrev pub spelt : List Piece → Text
spelt [] = []
spelt (p ∷ ps) = spelling p ++ spelt ps

-- the bytes of the line: neither a backslash that quotes nor a joint is among them
abbrev pub added : Piece → List Marked
added (Byte b) = plain b ∷ []
added (Escaped b) = quoted b ∷ []
added Joint = []

abbrev pub marks_of : List Piece → List Marked
marks_of [] = []
marks_of (p ∷ ps) = added p ++ marks_of ps

abbrev pub is_joint : Piece → Bool
is_joint (Byte b) = false
is_joint (Escaped b) = false
is_joint Joint = true

-- whether a joint is the last of these, or stands before them where there are none
abbrev pub joined_last : Bool → List Piece → Bool
joined_last before [] = before
joined_last before (p ∷ ps) = joined_last (is_joint p) ps

-- How the line ends, by what is left of the text: by a newline; by the end of the text; or it goes on in the next text, behind
-- a joint. A last backslash that quotes nothing belongs to no line.
abbrev pub EndsBy : Bool → Bool → Text → End → Type 0
EndsBy raw joined left Whole = (more : Text) × (left ≡ 10 ∷ more)
EndsBy raw joined left Short = ((joined ≡ false) × (left ≡ [])) ⊎ ((raw ≡ false) × (left ≡ 92 ∷ []))
EndsBy raw joined left Continued = (joined ≡ true) × (left ≡ [])

-- this is the line at the front of a text
pub record IsReadLine (raw : Bool) (text : Text) (line : Line) : Type 0 where
  pub pieces : List Piece
  pub left : Text
  pub whole : text ≡ spelt pieces ++ left
  pub are : ArePieces raw pieces
  pub marks : line.marks ≡ marks_of pieces
  pub end : EndsBy raw (joined_last false pieces) left line.end
