-- Values and texts as marked bytes, and back.
use Rattle.std.specs.Prelude.{List, [], ◌∷◌, ◌++◌, Bool, true, false, ◌==◌, ◌&&◌, if◌then◌else◌}
use Rattle.rk_base.specs.Text.{Text}
use Rattle.rk_base.specs.Canonical.{is_empty}
use Rattle.sh_split.specs.declared.mark.Mark.{Mark}
use Rattle.sh_split.specs.declared.mark.Mark.TheVariants as mark
use Rattle.sh_split.specs.Cutting.{Marks}
use Rattle.sh_split.specs.Joining.{joined}

abbrev pub as_literal : Text → Marks
as_literal [] = []
as_literal (b ∷ bs) = mark.Literal b ∷ as_literal bs

abbrev pub as_quoted : Text → Marks
as_quoted [] = []
as_quoted (b ∷ bs) = mark.Quoted b ∷ as_quoted bs

abbrev pub as_given : Text → Marks
as_given [] = []
as_given (b ∷ bs) = mark.Given b ∷ as_given bs

-- a value: a quoted one is there though it be empty
abbrev pub given : Bool → Text → Marks
given true text = mark.Quote ∷ as_quoted text
given false text = as_given text

-- values, and between them breaks
abbrev pub more_given : Bool → List Text → Marks
more_given quoted [] = []
more_given quoted (word ∷ words) = mark.Break ∷ (given quoted word ++ more_given quoted words)

abbrev pub each_given : Bool → List Text → Marks
each_given quoted [] = []
each_given quoted (word ∷ words) = given quoted word ++ more_given quoted words

-- values apart, or joined
abbrev pub all_given : Bool → Bool → Text → List Text → Marks
all_given true quoted separator words = each_given quoted words
all_given false quoted separator words = given quoted (joined separator words)

-- the bytes of marks
abbrev pub byte_of : Mark → Text
byte_of (mark.Literal b) = b ∷ []
byte_of (mark.Quoted b) = b ∷ []
byte_of (mark.Given b) = b ∷ []
byte_of mark.Quote = []
byte_of mark.Break = []

abbrev pub text_of : Marks → Text
text_of [] = []
text_of (m ∷ ms) = byte_of m ++ text_of ms

-- the same as a pattern: a quoted byte stands behind a backslash
abbrev pub pattern_byte : Mark → Text
pattern_byte (mark.Literal b) = b ∷ []
pattern_byte (mark.Quoted b) = 92 ∷ b ∷ []
pattern_byte (mark.Given b) = b ∷ []
pattern_byte mark.Quote = []
pattern_byte mark.Break = []

abbrev pub pattern_of : Marks → Text
pattern_of [] = []
pattern_of (m ∷ ms) = pattern_byte m ++ pattern_of ms

-- what a substitution gives: no NULs, and no newlines at its end (XCU 2.6.3)
abbrev pub without_newlines : Text → Text
without_newlines [] = []
without_newlines (b ∷ bs) = if (b == 10) && is_empty (without_newlines bs) then [] else b ∷ without_newlines bs

abbrev pub without_nuls : Text → Text
without_nuls [] = []
without_nuls (b ∷ bs) = if b == 0 then without_nuls bs else b ∷ without_nuls bs

abbrev pub captured : Text → Text
captured text = without_newlines (without_nuls text)
