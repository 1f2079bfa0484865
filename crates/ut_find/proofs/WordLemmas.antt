-- Words are read one by one.
use Rattle.std.proofs.Common.{◌≡◌, ℕ, suc, ◌+◌, ◌<◌, List, ◌∷◌, length, get_or, drop, drop-cons, sym, ap, ◌∙◌, subst, IfOk, arith}
use Rattle.std.specs.Prelude.{Result}
use Rattle.rk_base.specs.Text.{Text}
use Rattle.rk_base.specs.declared.memory.NoMemory.{NoMemory}
use Rattle.ut_find.specs.declared.test.Test.{Test}
use Rattle.ut_find.specs.declared.tests.Judged.{Judged}
use Rattle.ut_find.specs.declared.tests.Fault.{Fault}
use Rattle.ut_find.specs.declared.tests.Wants.{Wants}
use Rattle.ut_find.specs.Words.{tests_from, on_judged, JudgesTo}

pub judged : (wants : Wants) (old new : List Test) (words : List Text) (n : ℕ) (word : Text) (j j' : Judged) (r : Result (List Test) Fault) → tests_from wants old (drop n words) ≡ r → n < length words → word ≡ get_or words n word → JudgesTo wants old word j new → j ≡ j' → r ≡ on_judged j' word (λ next. tests_from next new (drop (n + 1) words))
judged wants old new words n word j j' r e lt is h same =
    let m : suc n ≡ n + 1 = omega arith in
    sym e ∙ (ap (tests_from wants old) (drop-cons words n word lt ∙ (ap (λ k. get_or words n word ∷ drop k words) m ∙ ap (λ w. w ∷ drop (n + 1) words) (sym is))) ∙ (h (drop (n + 1) words) ∙ ap (λ k. on_judged k word (λ next. tests_from next new (drop (n + 1) words))) same))

pub told : (r r' : Result (List Test) Fault) (result : Result (Result (List Test) Fault) NoMemory) → r ≡ r' → IfOk result (λ x. x ≡ r) → IfOk result (λ x. x ≡ r')
told r r' result e h = subst (λ y. IfOk result (λ x. x ≡ y)) e h
