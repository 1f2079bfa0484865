-- A text that isn't empty has a line.
use Rattle.std.proofs.Common.{◌≡◌, ℕ, List, [], ◌∷◌, ◌++◌, ◌==◌, Bool, true, false, cond, refl}
use Rattle.rk_base.specs.Canonical.{is_empty}
use Rattle.rk_base.specs.Text.{Text}
use Rattle.ut_filter.specs.Lines.{lines_of, onto_first}

onto-is_empty : (b : ℕ) (lines more : List Text) → is_empty (onto_first b lines ++ more) ≡ false
onto-is_empty b [] more = refl
onto-is_empty b (line ∷ lines) more = refl

lines-cases : (t : Bool) (b : ℕ) (lines more : List Text) → is_empty ((cond t ([] ∷ lines) (onto_first b lines)) ++ more) ≡ false
lines-cases true b lines more = refl
lines-cases false b lines more = onto-is_empty b lines more

pub no_lines : (text : Text) (more : List Text) → is_empty text ≡ false → is_empty (lines_of text ++ more) ≡ false
no_lines [] more h = cc
no_lines (b ∷ bs) more h = lines-cases (b == 10) b (lines_of bs) more
