-- Counts of a text.
use Rattle.std.specs.Prelude.{ℕ, ◌+◌, [], ◌∷◌, length, count_by, nat_le, Bool, true, false, ◌==◌, ◌||◌, ◌&&◌, if◌then◌else◌}
use Rattle.rk_base.specs.Text.{Text}
use Rattle.ut_text.specs.declared.count.Count.{Count}

abbrev pub is_space : ℕ → Bool
is_space b = (b == 32) || (nat_le 9 b && nat_le b 13)

abbrev pub lines_in : Text → ℕ
lines_in = count_by (λ b. b == 10)

-- a word begins at each byte that is no white space and stands in no word
abbrev pub words_from : Bool → Text → ℕ
words_from inside [] = 0
words_from inside (b ∷ bs) = if is_space b then words_from false bs else (if inside then words_from true bs else words_from true bs + 1)

abbrev pub words_in : Text → ℕ
words_in = words_from false

abbrev pub count : Text → Count
count text = record { lines = lines_in text; words = words_in text; bytes = length text }

abbrev pub sum : Count → Count → Count
sum a b = record { lines = a.lines + b.lines; words = a.words + b.words; bytes = a.bytes + b.bytes }
