-- Names and parameters, by the bytes in front of a text (XBD 3.216, XCU 2.5).
use Rattle.std.specs.Prelude.{ℕ, suc, ◌==◌, ◌||◌, List, [], ◌∷◌, slice_index, Bool, true, false, if◌then◌else◌}
use Rattle.std.specs.Char.{is_ascii_digit, is_ascii_alphabetic}

-- a byte with which a name begins, and one within it
abbrev pub begins_name : ℕ → Bool
begins_name c = is_ascii_alphabetic c || c == 95

abbrev pub in_name : ℕ → Bool
in_name c = begins_name c || is_ascii_digit c

abbrev pub one_more_if : Bool → ℕ → ℕ
one_more_if true n = suc n
one_more_if false n = 0

-- how many bytes in front are of a class
abbrev pub count_of : (ℕ → Bool) → List ℕ → ℕ
count_of f [] = 0
count_of f (c ∷ cs) = one_more_if (f c) (count_of f cs)

-- how many bytes the parameter in front has: a name, digits, or one special character
unfoldable pub parameter_length : List ℕ → ℕ
parameter_length text =
    let c = slice_index text 0 in
    if begins_name c then count_of in_name text
    else if is_ascii_digit c then count_of is_ascii_digit text
    else 1
