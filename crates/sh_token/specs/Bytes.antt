-- Classes of bytes.
use Rattle.std.specs.Prelude.{ℕ, ◌+◌, ◌==◌, nat_lt, Bool, true, false, if◌then◌else◌}
use Rattle.sh_token.specs.declared.bytes.Class.{Class}
use Rattle.sh_token.specs.declared.bytes.Class.TheVariants as cl

infixr 5 ◌or◌
abbrev pub ◌or◌ : Bool → Bool → Bool
true or b = true
false or b = b

infixr 6 ◌also◌
abbrev pub ◌also◌ : Bool → Bool → Bool
true also b = b
false also b = false

abbrev pub not_so : Bool → Bool
not_so true = false
not_so false = true

abbrev pub is_blank : ℕ → Bool
is_blank c = (c == 32) or (c == 9)

abbrev pub within : ℕ → ℕ → ℕ → Bool
within a b c = if nat_lt c a then false else nat_lt c (b + 1)

abbrev pub is_digit : ℕ → Bool
is_digit c = within 48 57 c

abbrev pub is_letter : ℕ → Bool
is_letter c = within 97 122 c or within 65 90 c or c == 95

abbrev pub is_name : ℕ → Bool
is_name c = is_letter c or is_digit c

-- what ends a word: the text's end or a NUL, a blank, a newline, an operator
abbrev pub is_end : ℕ → Bool
is_end c = c == 0 or is_blank c or c == 10 or c == 59 or c == 38 or c == 124 or c == 60 or c == 62 or c == 40 or c == 41

-- what quotes or begins an expansion: \ ' " ` $
abbrev pub is_quoting : ℕ → Bool
is_quoting c = c == 92 or c == 39 or c == 34 or c == 96 or c == 36

-- a byte of a word that stands for itself
abbrev pub is_plain : ℕ → Bool
is_plain c = not_so (is_end c or is_quoting c)

-- a byte in double quotes that stands for itself: all but $ ` " \ (XCU 2.2.3)
abbrev pub is_quoted_text : ℕ → Bool
is_quoted_text c = not_so (c == 0 or c == 36 or c == 96 or c == 34 or c == 92)

-- a byte of a parameter's word that stands for itself: all but } \ ' " ` $ (XCU 2.6.2)
abbrev pub is_brace_text : ℕ → Bool
is_brace_text c = not_so (c == 0 or c == 125 or is_quoting c)

-- in braces within double quotes: all but } " ` $ \
abbrev pub is_quoted_brace_text : ℕ → Bool
is_quoted_brace_text c = not_so (c == 0 or c == 125 or c == 36 or c == 96 or c == 34 or c == 92)

-- in a here-document: all but ` $ \ (XCU 2.7.4)
abbrev pub is_body_text : ℕ → Bool
is_body_text c = not_so (c == 0 or c == 36 or c == 96 or c == 92)

-- in an arithmetic expansion: the same but for parentheses (XCU 2.6.4)
abbrev pub is_arithmetic_text : ℕ → Bool
is_arithmetic_text c = not_so (c == 0 or c == 36 or c == 96 or c == 92 or c == 40 or c == 41)

-- a tab; a byte that quotes nothing in a delimiter: all but \ ' "
abbrev pub is_tab : ℕ → Bool
is_tab c = c == 9

abbrev pub is_unquoted : ℕ → Bool
is_unquoted c = not_so (c == 0 or c == 92 or c == 39 or c == 34)

-- the bytes of a class
abbrev pub class_is : Class → ℕ → Bool
class_is cl.Plain c = is_plain c
class_is cl.Blank c = is_blank c
class_is cl.Digit c = is_digit c
class_is cl.Name c = is_name c
class_is cl.QuotedText c = is_quoted_text c
class_is cl.BraceText c = is_brace_text c
class_is cl.QuotedBraceText c = is_quoted_brace_text c
class_is cl.BodyText c = is_body_text c
class_is cl.ArithmeticText c = is_arithmetic_text c
class_is cl.Tab c = is_tab c
class_is cl.Unquoted c = is_unquoted c
