-- Classes of bytes.
use Rattle.std.specs.Prelude.{ℕ, nat_le, length, codes, ◌==◌, ◌&&◌, ◌||◌, Bool, Option, Some, None, if◌then◌else◌}
use Rattle.rk_base.specs.Text.{Text, begins_with}
use Rattle.sh_pattern.specs.declared.class.Class.{Class}
use Rattle.sh_pattern.specs.declared.class.Class.TheVariants.{Alpha, Digit, Alnum, Upper, Lower, Space, Blank, Punct, Print, Graph, Cntrl, Xdigit}

abbrev pub between : ℕ → ℕ → ℕ → Bool
between low high b = nat_le low b && nat_le b high

abbrev pub in_class : Class → ℕ → Bool
in_class Alpha b = between 97 122 b || between 65 90 b
in_class Digit b = between 48 57 b
in_class Alnum b = between 97 122 b || between 65 90 b || between 48 57 b
in_class Upper b = between 65 90 b
in_class Lower b = between 97 122 b
in_class Space b = between 9 13 b || (b == 32)
in_class Blank b = (b == 9) || (b == 32)
in_class Punct b = between 33 47 b || between 58 64 b || between 91 96 b || between 123 126 b
in_class Print b = between 32 126 b
in_class Graph b = between 33 126 b
in_class Cntrl b = between 0 31 b || (b == 127)
in_class Xdigit b = between 48 57 b || between 97 102 b || between 65 70 b

-- this class where the text begins with its name, else the other one
abbrev pub named : Text → Text → Class → Option (Class × ℕ) → Option (Class × ℕ)
named text front class rest = if begins_with text front then Some (class, length front) else rest

-- the class that stands at the front of what comes after a `[` within a set, and how many bytes it takes
unfoldable pub class_at : Text → Option (Class × ℕ)
class_at text =
    named text (codes ":xdigit:]") Xdigit (named text (codes ":cntrl:]") Cntrl (named text (codes ":graph:]") Graph (named text (codes ":print:]") Print (named text (codes ":punct:]") Punct (named text (codes ":blank:]") Blank (named text (codes ":space:]") Space (named text (codes ":lower:]") Lower (named text (codes ":upper:]") Upper (named text (codes ":alnum:]") Alnum (named text (codes ":digit:]") Digit (named text (codes ":alpha:]") Alpha None)))))))))))
