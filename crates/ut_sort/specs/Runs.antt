-- Bytes of one class at the front of a text.
use Rattle.std.specs.Prelude.{ℕ, take, drop, Bool, ◌==◌, ◌||◌, not}
use Rattle.std.specs.List.{prefix_len}
use Rattle.rk_base.specs.Text.{Text}
use Rattle.ut_args.specs.Forms.{is_digit, is_order}
use Rattle.ut_sort.specs.declared.runs.ByteClass.{ByteClass}
use Rattle.ut_sort.specs.declared.runs.ByteClass.TheVariants.{Blank, Solid, Digit, Zero, Unlettered, Other}

abbrev pub is_blank : ℕ → Bool
is_blank b = b == 32 || b == 9

abbrev pub is_of : ByteClass → ℕ → Bool
is_of Blank b = is_blank b
is_of Solid b = not (is_blank b)
is_of Digit b = is_digit b
is_of Zero b = b == 48
is_of Unlettered b = not (is_order b)
is_of (Other c) b = not (b == c)

-- how many of them stand at the front
abbrev pub run : ByteClass → Text → ℕ
run class text = prefix_len (is_of class) text

abbrev pub front : ByteClass → Text → Text
front class text = take (run class text) text

-- what comes after them
abbrev pub rest : ByteClass → Text → Text
rest class text = drop (run class text) text
