-- Marks, one by one.
use Rattle.std.proofs.Common.{◌≡◌, List, [], ◌∷◌, ◌++◌, refl, sym, ap, ◌∙◌}
use Rattle.sh_grammar.specs.Marks.{Mark}
use Rattle.sh_script.specs.States.{State}
use Rattle.sh_script.specs.Folds.{marked, marked_all}

pub marked_append : (ms ns : List Mark) (s : State) → marked_all (ms ++ ns) s ≡ marked_all ms (marked_all ns s)
unfolding marked_all
marked_append [] ns s = refl
marked_append (m ∷ ms) ns s = ap (marked m) (marked_append ms ns s)

pub marked_last : (ms : List Mark) (m : Mark) (s : State) → marked_all (ms ++ m ∷ []) s ≡ marked_all ms (marked m s)
unfolding marked_all
marked_last ms m s = marked_append ms (m ∷ []) s

-- the last of the marks is taken
pub marked_pushed : (ms ns : List Mark) (m : Mark) (s t : State) → ms ≡ ns ++ m ∷ [] → t ≡ marked m s → marked_all ns t ≡ marked_all ms s
marked_pushed ms ns m s t e h = ap (marked_all ns) h ∙ sym (ap (λ l. marked_all l s) e ∙ marked_last ns m s)
