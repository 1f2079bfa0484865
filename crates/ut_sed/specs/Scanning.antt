-- What stands between delimiters (XCU sed, "Regular Expressions in sed").
use Rattle.std.specs.Prelude.{ℕ, List, [], ◌∷◌, ◌++◌, Bool, true, false, not, ◌==◌, ◌&&◌, ◌||◌, nat_lt, nat_le, ◌-◌, Option, Some, None, if◌then◌else◌}
use Rattle.rk_base.specs.Text.{Text}
use Rattle.ut_bre.specs.Reading.{Read, reads, bad_at, read}
use Rattle.ut_bre.specs.Trees.{Expression}
use Rattle.ut_sed.specs.declared.command.Part.{Part}
use Rattle.ut_sed.specs.declared.command.Part.TheVariants.{Byte, Whole, Group}
use Rattle.ut_sed.specs.declared.scan.Piece.{Piece}
use Rattle.ut_sed.specs.declared.scan.Piece.TheVariants.{Closes, Wrong, Quotes, Takes}
use Rattle.ut_sed.specs.declared.scan.Scan.{Scan}
use Rattle.ut_sed.specs.declared.scan.Scan.TheVariants.{Plain, Quoted, Opened, Negated, Listed, Inner, Class, Closing, Raw, RawQuoted}

-- any byte but a backslash and a newline delimits
abbrev pub is_delimiter : ℕ → Bool
is_delimiter d = not ((d == 92) || (d == 10))

-- bytes that a backslash before them takes a special meaning from (XBD 9.3.3)
abbrev pub is_special : ℕ → Bool
is_special b = (b == 46) || ((b == 91) || ((b == 42) || ((b == 94) || (b == 36))))

-- Where a byte stands in an expression: a backslash quotes it, or it is in a bracket expression (XBD 9.3.5), in which a
-- delimiter is a byte as any other. A string of `y` has no brackets.

abbrev pub after_plain : ℕ → Scan
after_plain b = if b == 92 then Quoted else (if b == 91 then Opened else Plain)

abbrev pub after_listed : ℕ → Scan
after_listed b = if b == 93 then Plain else (if b == 91 then Inner else Listed)

-- a `]` that comes first is listed
abbrev pub after_first : ℕ → Scan
after_first b = if b == 91 then Inner else Listed

abbrev pub after_inner : ℕ → Scan
after_inner b = if b == 58 then Class else after_listed b

abbrev pub after_class : ℕ → Scan
after_class b = if b == 58 then Closing else Class

abbrev pub after_closing : ℕ → Scan
after_closing b = if b == 93 then Listed else after_class b

abbrev pub after_raw : ℕ → Scan
after_raw b = if b == 92 then RawQuoted else Raw

abbrev pub after_byte : Scan → ℕ → Scan
after_byte Plain b = after_plain b
after_byte Quoted b = Plain
after_byte Opened b = if b == 94 then Negated else after_first b
after_byte Negated b = after_first b
after_byte Listed b = after_listed b
after_byte Inner b = after_inner b
after_byte Class b = after_class b
after_byte Closing b = after_closing b
after_byte Raw b = after_raw b
after_byte RawQuoted b = Raw

-- whether a byte closes what it delimits
abbrev pub closes : ℕ → Scan → ℕ → Bool
closes d Plain b = b == d
closes d Raw b = b == d
closes d Quoted b = false
closes d Opened b = false
closes d Negated b = false
closes d Listed b = false
closes d Inner b = false
closes d Class b = false
closes d Closing b = false
closes d RawQuoted b = false

-- a newline may not stand there; in a string of `y` a backslash quotes itself and the delimiter alone
abbrev pub is_wrong : ℕ → Scan → ℕ → Bool
is_wrong d RawQuoted b = not ((b == d) || (b == 92))
is_wrong d Raw b = b == 10
is_wrong d Plain b = b == 10
is_wrong d Quoted b = b == 10
is_wrong d Opened b = b == 10
is_wrong d Negated b = b == 10
is_wrong d Listed b = b == 10
is_wrong d Inner b = b == 10
is_wrong d Class b = b == 10
is_wrong d Closing b = b == 10

-- A backslash that quotes the delimiter goes, unless the delimiter would be special without it.
abbrev pub quoted_bytes : ℕ → ℕ → Text
quoted_bytes d b = if (b == d) && not (is_special d) then b ∷ [] else 92 ∷ b ∷ []

abbrev pub unless_backslash : ℕ → Text
unless_backslash b = if b == 92 then [] else b ∷ []

-- what a byte adds
abbrev pub kept : ℕ → Scan → ℕ → Text
kept d Plain b = unless_backslash b
kept d Quoted b = quoted_bytes d b
kept d Raw b = unless_backslash b
kept d RawQuoted b = b ∷ []
kept d Opened b = b ∷ []
kept d Negated b = b ∷ []
kept d Listed b = b ∷ []
kept d Inner b = b ∷ []
kept d Class b = b ∷ []
kept d Closing b = b ∷ []

-- the text up to the delimiter, after what was kept of it so far, and what stands behind that; None where it isn't closed
abbrev pub text_from : ℕ → Scan → Text → Text → Option (Text × Text)
text_from d scan text [] = None
text_from d scan text (b ∷ bs) = if closes d scan b then Some (text, bs) else (if is_wrong d scan b then None else text_from d (after_byte scan b) (text ++ kept d scan b) bs)

-- Expressions.

abbrev pub read_as : Read → Option Expression
read_as (reads e) = Some e
read_as (bad_at at) = None

-- the empty text is none here
abbrev pub expression_of : Text → Option Expression
expression_of [] = None
expression_of (b ∷ bs) = read_as (read (b ∷ bs))

abbrev pub with_rest : {A : Type 0} → Option A → Text → Option (A × Text)
with_rest None rest = None
with_rest (Some x) rest = Some (x, rest)

abbrev pub expressed : Option (Text × Text) → Option (Expression × Text)
expressed None = None
expressed (Some r) = with_rest (expression_of r.0) r.1

-- the expression up to the delimiter, and what stands behind that
abbrev pub expression_at : ℕ → Text → Option (Expression × Text)
expression_at d text = expressed (text_from d Plain [] text)

-- Replacements.

abbrev pub is_digit : ℕ → Bool
is_digit b = nat_le 48 b && nat_le b 57

-- `\1` to `\9`, of groups that exist
abbrev pub group_piece : ℕ → ℕ → Piece
group_piece groups b = if (nat_lt 48 b && nat_le b 57) && nat_le (b - 48) groups then Takes (Group (b - 48)) else Wrong

-- a byte behind a backslash: the delimiter, `&`, a backslash, a newline, or the digit of a group
abbrev pub quoted_piece : ℕ → ℕ → ℕ → Piece
quoted_piece d groups b = if (b == d) || ((b == 38) || ((b == 92) || (b == 10))) then Takes (Byte b) else group_piece groups b

abbrev pub plain_piece : ℕ → ℕ → Piece
plain_piece d b = if b == d then Closes else (if b == 10 then Wrong else (if b == 92 then Quotes else (if b == 38 then Takes Whole else Takes (Byte b))))

-- what a byte of a replacement is, behind a backslash or not
abbrev pub piece_of : ℕ → ℕ → Bool → ℕ → Piece
piece_of d groups true b = quoted_piece d groups b
piece_of d groups false b = plain_piece d b

-- the parts up to the delimiter, after those so far, and what stands behind that
abbrev pub parts_from : ℕ → ℕ → Bool → List Part → Text → Option (List Part × Text)
parts_from d groups quoted parts [] = None
parts_from d groups quoted parts (b ∷ bs) =
    elim (piece_of d groups quoted b) as (λ p. Option (List Part × Text)) [ Closes ↦ Some (parts, bs) | Wrong ↦ None | Quotes ↦ parts_from d groups true parts bs | Takes part ↦ parts_from d groups false (parts ++ part ∷ []) bs ]

abbrev pub parts_at : ℕ → ℕ → Text → Option (List Part × Text)
parts_at d groups text = parts_from d groups false [] text
