-- The lines of a text.
use Rattle.std.specs.Prelude.{◌≡◌, ℕ, List, [], ◌∷◌, Some, slice_get, ◌==◌, if◌then◌else◌}
use Rattle.rk_base.specs.Text.{Text}

-- a byte before the first line
abbrev pub onto_first : ℕ → List Text → List Text
onto_first b [] = (b ∷ []) ∷ []
onto_first b (line ∷ more) = (b ∷ line) ∷ more

-- each up to a newline, which is no part of it; the last one may lack its newline
abbrev pub lines_of : Text → List Text
lines_of [] = []
lines_of (b ∷ bs) = if b == 10 then [] ∷ lines_of bs else onto_first b (lines_of bs)

abbrev pub first_line : Text → Text
first_line [] = []
first_line (b ∷ bs) = if b == 10 then [] else b ∷ first_line bs

abbrev pub after_line : Text → Text
after_line [] = []
after_line (b ∷ bs) = if b == 10 then bs else after_line bs

-- a text has no such byte
abbrev pub Lacks : Text → ℕ → Type 0
Lacks text b = (k : ℕ) → slice_get text k ≡ Some b → ⊥
