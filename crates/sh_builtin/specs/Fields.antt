-- The values of the variables of `read`, by how far the tests of bytes go.
use Rattle.std.specs.Prelude.{ℕ, ◌-◌, List, [], ◌∷◌, reverse, take, drop, length, Bool, not, ◌&&◌, if◌then◌else◌}
use Rattle.std.specs.List.{take_while}
use Rattle.rk_base.specs.Text.{Text}
use Rattle.rk_base.specs.Canonical.{is_empty}
use Rattle.sh_split.specs.Marks.{contains, is_blank}
use Rattle.sh_builtin.specs.declared.marks.Marked.{Marked}
use Rattle.sh_builtin.specs.ReadValues.{bytes_of}

-- a byte of IFS that isn't quoted
abbrev pub delimits : Text → Marked → Bool
delimits ifs m = not m.quoted && contains ifs m.byte

-- IFS white space
abbrev pub is_white : Text → Marked → Bool
is_white ifs m = delimits ifs m && is_blank m.byte

abbrev pub belongs : Text → Marked → Bool
belongs ifs m = not (delimits ifs m)

-- behind IFS white space
abbrev pub past_white : Text → List Marked → List Marked
past_white ifs ms = drop (length (take_while (is_white ifs) ms)) ms

abbrev pub field_length : Text → List Marked → ℕ
field_length ifs ms = length (take_while (belongs ifs) ms)

-- up to the next delimiter
abbrev pub field : Text → List Marked → List Marked
field ifs ms = take (field_length ifs ms) ms

-- behind another byte of IFS, and the white space after it
abbrev pub past_hard : Text → List Marked → List Marked
past_hard ifs [] = []
past_hard ifs (m ∷ ms) = if delimits ifs m then past_white ifs ms else m ∷ ms

-- behind the field and its delimiter
abbrev pub rest : Text → List Marked → List Marked
rest ifs ms = past_hard ifs (past_white ifs (drop (field_length ifs ms) ms))

-- without IFS white space at the end
abbrev pub trimmed : Text → List Marked → List Marked
trimmed ifs ms = take (length ms - length (take_while (is_white ifs) (reverse ms))) ms

-- the last variable has all that is left, but one delimiter that ends a last field goes
abbrev pub last_value : Text → List Marked → Text
last_value ifs ms = if is_empty (rest ifs ms) then bytes_of (field ifs ms) else bytes_of (trimmed ifs ms)

-- the value of a variable behind which these stand
abbrev pub value_before : List Text → Text → List Marked → Text
value_before [] ifs ms = last_value ifs ms
value_before (x ∷ xs) ifs ms = bytes_of (field ifs ms)

-- a value for each variable, from left to right
abbrev pub values_from : Text → List Text → List Marked → List Text
values_from ifs [] ms = []
values_from ifs (x ∷ xs) ms = value_before xs ifs ms ∷ values_from ifs xs (rest ifs ms)

abbrev pub values : Text → List Text → List Marked → List Text
values ifs names ms = values_from ifs names (past_white ifs ms)
