-- The sets of `tr`.
use Rattle.std.specs.Prelude.{ℕ, zero, suc, ◌+◌, ◌-◌, ◌*◌, ◌%◌, List, [], ◌∷◌, ◌++◌, length, drop, Option, Some, None, Bool, false, ◌==◌, ◌&&◌, ◌||◌, not, if◌then◌else◌}
use Rattle.std.specs.List.{list_any, filter, range_with_len}
use Rattle.rk_base.specs.Text.{Text}
use Rattle.sh_pattern.specs.declared.class.Class.{Class}
use Rattle.sh_pattern.specs.Classes.{in_class, class_at}
use Rattle.ut_args.specs.Forms.{is_octal}

-- a byte as it is written in a set, and what stands after it
pub record UnitValue : Type 0 where
  pub byte : ℕ
  pub rest : Text

abbrev pub unit : ℕ → Text → UnitValue
unit byte rest = record { byte = byte; rest = rest }

-- one octal digit more, where there is one, modulo 256
abbrev pub digit_more : ℕ → Text → UnitValue
digit_more n [] = unit n []
digit_more n (c ∷ cs) = if is_octal c then unit ((n * 8 + (c - 48)) % 256) cs else unit n (c ∷ cs)

-- at most two
abbrev pub two_more : UnitValue → UnitValue
two_more u = digit_more (digit_more u.byte u.rest).byte (digit_more u.byte u.rest).rest

-- the byte that a letter stands for after a backslash
abbrev pub letter : ℕ → Option ℕ
letter c =
    if c == 92 then Some 92 else
    (if c == 97 then Some 7 else
    (if c == 98 then Some 8 else
    (if c == 102 then Some 12 else
    (if c == 110 then Some 10 else
    (if c == 114 then Some 13 else
    (if c == 116 then Some 9 else
    (if c == 118 then Some 11 else None)))))))

-- of an unknown one the backslash is itself
abbrev pub by_letter : Option ℕ → ℕ → Text → UnitValue
by_letter None c cs = unit 92 (c ∷ cs)
by_letter (Some b) c cs = unit b cs

-- after a backslash
abbrev pub escaped : Text → UnitValue
escaped [] = unit 92 []
escaped (c ∷ cs) = if is_octal c then two_more (unit (c - 48) cs) else by_letter (letter c) c cs

abbrev pub unit_of : ℕ → Text → UnitValue
unit_of b bs = if b == 92 then escaped bs else unit b bs

-- bytes from the low one up to the high one, and what stands after them
pub record ItemValue : Type 0 where
  pub low : ℕ
  pub high : ℕ
  pub rest : Text

abbrev pub alone : UnitValue → ItemValue
alone u = record { low = u.byte; high = u.byte; rest = u.rest }

abbrev pub up_to : ℕ → UnitValue → ItemValue
up_to low u = record { low = low; high = u.byte; rest = u.rest }

-- a `-` makes a range where a byte follows it
abbrev pub ranged : ℕ → Text → ItemValue
ranged b [] = alone (unit b [])
ranged b (c ∷ []) = alone (unit b (c ∷ []))
ranged b (c ∷ d ∷ ds) = if c == 45 then up_to b (unit_of d ds) else alone (unit b (c ∷ d ∷ ds))

abbrev pub item : ℕ → Text → ItemValue
item b bs = ranged (unit_of b bs).byte (unit_of b bs).rest

-- ascending; none where the low one is greater
abbrev pub range : ℕ → ℕ → List ℕ
range low high = range_with_len low ((high + 1) - low)

-- all bytes, ascending
unfoldable pub all_bytes : List ℕ
all_bytes = range_with_len 0 256

-- the bytes of a character class, ascending
abbrev pub class_bytes : Class → List ℕ
class_bytes class = filter (in_class class) all_bytes

-- the class that begins with this byte and this text, as `[:alpha:]`, and how many bytes it takes beyond the first
abbrev pub class_in : ℕ → Text → Option (Class × ℕ)
class_in b bs = if b == 91 then class_at bs else None

-- bytes that a part of a set stands for, in order, and what stands after it
pub record PartValue : Type 0 where
  pub bytes : List ℕ
  pub rest : Text

abbrev pub part_by : Option (Class × ℕ) → ℕ → Text → PartValue
part_by (Some found) b bs = record { bytes = class_bytes found.0; rest = drop found.1 bs }
part_by None b bs = record { bytes = range (item b bs).low (item b bs).high; rest = (item b bs).rest }

-- a class, a range or a byte
abbrev pub part : ℕ → Text → PartValue
part b bs = part_by (class_in b bs) b bs

-- at most so many parts
abbrev pub set_within : ℕ → Text → List ℕ
set_within zero text = []
set_within (suc n) [] = []
set_within (suc n) (b ∷ bs) = (part b bs).bytes ++ set_within n (part b bs).rest

-- the bytes of a set, in the order in which they are written
abbrev pub set_of : Text → List ℕ
set_of text = set_within (length text) text

-- whether `:]` stands in a text, of which the byte before is this one
abbrev pub has_end : ℕ → Text → Bool
has_end last [] = false
has_end last (b ∷ bs) = (last == 58 && b == 93) || has_end b bs

-- whether a text begins with a `:`, and a `:]` comes later
abbrev pub names_class : Text → Bool
names_class [] = false
names_class (b ∷ bs) = b == 58 && has_end 0 bs

-- whether a class is named here that there isn't
abbrev pub is_unknown : Option (Class × ℕ) → ℕ → Text → Bool
is_unknown (Some found) b bs = false
is_unknown None b bs = b == 91 && names_class bs

-- the same of one of at most so many parts
abbrev pub misnamed_within : ℕ → Text → Bool
misnamed_within zero text = false
misnamed_within (suc n) [] = false
misnamed_within (suc n) (b ∷ bs) = is_unknown (class_in b bs) b bs || misnamed_within n (part b bs).rest

-- whether a set names a class that there isn't
abbrev pub misnamed : Text → Bool
misnamed text = misnamed_within (length text) text

abbrev pub is_member : List ℕ → ℕ → Bool
is_member set c = list_any (λ b. b == c) set

-- the other bytes, ascending
abbrev pub complement : List ℕ → List ℕ
complement set = filter (λ c. not (is_member set c)) all_bytes
