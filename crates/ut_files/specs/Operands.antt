-- Parts of operands, as `basename` and `dirname` take them (XCU, "Utilities").
use Rattle.std.specs.Prelude.{ℕ, ◌+◌, [], ◌∷◌, ◌++◌, take, drop, Bool, not, ◌||◌, if◌then◌else◌}
use Rattle.std.specs.List.{position_or_len}
use Rattle.rk_base.specs.Text.{Text, is_slash, same_text, root, dot, dot_dot}

-- how many bytes stand up to the last one that is no slash
abbrev pub kept : ℕ → ℕ → Text → ℕ
kept end i [] = end
kept end i (b ∷ bs) = kept (if is_slash b then end else i + 1) (i + 1) bs

-- without the slashes at its end
abbrev pub trimmed : Text → Text
trimmed text = take (kept 0 0 text) text

-- where begins what stands after the last slash
abbrev pub begins : ℕ → ℕ → Text → ℕ
begins at i [] = at
begins at i (b ∷ bs) = begins (if is_slash b then i + 1 else at) (i + 1) bs

-- what stands after the last slash
abbrev pub after_last : Text → Text
after_last text = drop (begins 0 0 text) text

-- what stands before it, with it
abbrev pub before_last : Text → Text
before_last text = take (begins 0 0 text) text

-- where nothing is left, the slash of which the text is made
abbrev pub or_slash : Text → Text → Text
or_slash text [] = take 1 text
or_slash text (b ∷ bs) = b ∷ bs

-- the last component; of slashes alone `/`
unfoldable pub basename : Text → Text
basename text = or_slash text (after_last (trimmed text))

-- The directory of an absolute text: what stands before its last component. An empty text stays empty.
unfoldable pub dirname : Text → Text
dirname text = or_slash text (trimmed (before_last (trimmed text)))

-- a name in a directory
unfoldable pub below : Text → Text → Text
below operand name = operand ++ 47 ∷ name

-- `/`, or a last `.` or `..`
abbrev pub is_fixed : Text → Bool
is_fixed operand = (same_text (basename operand) root || same_text (basename operand) dot) || same_text (basename operand) dot_dot

abbrev pub is_other : ℕ → Bool
is_other b = not (is_slash b)

-- how many bytes the slashes at the front of a text have, and those of the component after them
abbrev pub part : Text → ℕ
part text = position_or_len is_other text + position_or_len is_slash (drop (position_or_len is_other text) text)

-- where the prefix that is longer by one component ends
unfoldable pub longer : Text → ℕ → ℕ
longer text end = end + part (drop end text)
