-- Texts as lines show them.
use Rattle.std.specs.Prelude.{ℕ, ◌+◌, ◌-◌, ◌/◌, ◌%◌, [], ◌∷◌, Bool, not, ◌&&◌, ◌==◌, nat_lt, nat_le, if◌then◌else◌}
use Rattle.std.specs.List.{flat_map}
use Rattle.rk_base.specs.Text.{Text}

-- a hexadecimal digit, in lower case
abbrev pub digit : ℕ → ℕ
digit n = if nat_lt n 10 then 48 + n else 97 + (n - 10)

-- printable ASCII but the blank and the backslash
abbrev pub is_plain : ℕ → Bool
is_plain b = nat_le 33 b && nat_le b 126 && not (b == 92)

-- as it is, or as `\x` and two digits
abbrev pub shown_byte : ℕ → Text
shown_byte b = if is_plain b then b ∷ [] else 92 ∷ 120 ∷ digit (b / 16) ∷ digit (b % 16) ∷ []

abbrev pub shown_bytes : Text → Text
shown_bytes = flat_map shown_byte

-- nothing is shown as two quotes
abbrev pub shown : Text → Text
shown [] = 39 ∷ 39 ∷ []
shown (b ∷ bs) = shown_bytes (b ∷ bs)
