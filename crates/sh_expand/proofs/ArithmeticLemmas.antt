-- What arithmetic puts down, and what is told of its faults.
use Rattle.std.proofs.Common.{◌≡◌, ℕ, [], ◌∷◌, ◌++◌, Bool, ap, refl, sym, subst, ◌∙◌}
use Rattle.std.specs.Prelude.{ℤ, Ok, Err, true, false, if◌then◌else◌}
use Rattle.std.specs.Fmt.{signed_decimal}
use Rattle.rk_base.specs.Text.{Text}
use Rattle.sh_arith.specs.declared.error.ArithErr.{ArithErr}
use Rattle.sh_arith.specs.declared.error.ArithErr.TheVariants as err
use Rattle.sh_arith.specs.Meaning.{Ends}
use Rattle.sh_arith.specs.Operators.{Worth}
use Rattle.sh_arith.specs.Told.{Valued}
use Rattle.sh_arith.proofs.Worths.{worth_told}
use Rattle.sh_split.specs.Cutting.{Marks}
use Rattle.sh_split.specs.Marked.{given}
use Rattle.sh_vars.specs.Held.{Held}
use Rattle.sh_vars.specs.declared.env.Env.{Env}
use Rattle.sh_expand.specs.Arithmetic.{variables_in, told_of, words_of, IsTold, is_blank, before_end, without_last_blanks}
use Rattle.sh_expand.specs.Expands.{Ended, Failed, left_put, computed}

pub number_put : (quoted : Bool) (text : Text) (e : Env) (new : Held) (number : ℤ) (marks : Marks) → Valued e.nounset text (variables_in e.vars) (Ok number) (variables_in new) → (k : Ended) (fail : Failed) (p : ℕ) → computed quoted text marks k fail e p ≡ k (marks ++ given quoted (signed_decimal number)) (record e { vars = new }) p
number_put quoted text e new number marks h k fail p =
    ap (λ (x : Ends Held). left_put quoted text x marks k fail e p) (worth_told e.nounset text (variables_in e.vars) (variables_in new) (Ok number) h)

pub fault_told : (quoted : Bool) (text : Text) (e : Env) (new : Held) (fault : ArithErr) (marks : Marks) → Valued e.nounset text (variables_in e.vars) (Err fault) (variables_in new) → IsTold fault → (k : Ended) (fail : Failed) (p : ℕ) → computed quoted text marks k fail e p ≡ fail (told_of text fault) (words_of fault) (record e { vars = new }) p
fault_told quoted text e new (err.Syntax at) marks h t k fail p = ap (λ (x : Ends Held). left_put quoted text x marks k fail e p) (worth_told e.nounset text (variables_in e.vars) (variables_in new) (Err (err.Syntax at)) h)
fault_told quoted text e new err.Overflow marks h t k fail p = ap (λ (x : Ends Held). left_put quoted text x marks k fail e p) (worth_told e.nounset text (variables_in e.vars) (variables_in new) (Err err.Overflow) h)
fault_told quoted text e new err.ZeroDivisor marks h t k fail p = ap (λ (x : Ends Held). left_put quoted text x marks k fail e p) (worth_told e.nounset text (variables_in e.vars) (variables_in new) (Err err.ZeroDivisor) h)
fault_told quoted text e new (err.Name x) marks h t k fail p = ap (λ (x : Ends Held). left_put quoted text x marks k fail e p) (worth_told e.nounset text (variables_in e.vars) (variables_in new) (Err (err.Name x)) h)
fault_told quoted text e new (err.Unset x) marks h t k fail p = ap (λ (x : Ends Held). left_put quoted text x marks k fail e p) (worth_told e.nounset text (variables_in e.vars) (variables_in new) (Err (err.Unset x)) h)
fault_told quoted text e new (err.Readonly x) marks h t k fail p = ap (λ (x : Ends Held). left_put quoted text x marks k fail e p) (worth_told e.nounset text (variables_in e.vars) (variables_in new) (Err (err.Readonly x)) h)
fault_told quoted text e new err.NoMemory marks h t k fail p = absurd t

-- Blanks at the end of a text.
pub blank_last : (xs : Text) (b : ℕ) → is_blank b ≡ true → without_last_blanks (xs ++ b ∷ []) ≡ without_last_blanks xs
blank_last [] b h = ap (λ t. if t then [] else b ∷ []) h
blank_last (x ∷ xs) b h = ap (before_end x) (blank_last xs b h)

some_before : (x b : ℕ) (xs : Text) → before_end x (xs ++ b ∷ []) ≡ x ∷ (xs ++ b ∷ [])
some_before x b [] = refl
some_before x b (y ∷ ys) = refl

pub other_last : (xs : Text) (b : ℕ) → is_blank b ≡ false → without_last_blanks (xs ++ b ∷ []) ≡ xs ++ b ∷ []
other_last [] b h = ap (λ t. if t then [] else b ∷ []) h
other_last (x ∷ xs) b h = ap (before_end x) (other_last xs b h) ∙ some_before x b xs

pub blanks_stop : (left front text : Text) (b : ℕ) (r : Bool) → r ≡ is_blank b → r ≡ false → left ≡ front ++ b ∷ [] → without_last_blanks left ≡ without_last_blanks text → left ≡ without_last_blanks text
blanks_stop left front text b r is other e h = e ∙ (sym (other_last front b (sym is ∙ other)) ∙ (ap without_last_blanks (sym e) ∙ h))

pub blanks_go_on : (left front text : Text) (b : ℕ) (r : Bool) → r ≡ is_blank b → r ≡ true → left ≡ front ++ b ∷ [] → without_last_blanks left ≡ without_last_blanks text → without_last_blanks front ≡ without_last_blanks text
blanks_go_on left front text b r is blank e h = sym (blank_last front b (sym is ∙ blank)) ∙ (ap without_last_blanks (sym e) ∙ h)

-- from the variables as they were lent to those that were given back
valued_by : (text : Text) (e : Env) (old new vars : Held) (r s : Worth) → old ≡ e.vars → new ≡ vars → r ≡ s → Valued e.nounset text (variables_in old) r (variables_in new) → Valued e.nounset text (variables_in e.vars) s (variables_in vars)
valued_by text e old new vars r s a b c h =
    subst (λ (x : Worth). Valued e.nounset text (variables_in e.vars) x (variables_in vars)) c
    (subst (λ (n : Held). Valued e.nounset text (variables_in e.vars) r (variables_in n)) b
    (subst (λ (o : Held). Valued e.nounset text (variables_in o) r (variables_in new)) a h))

pub number_is_put : (quoted : Bool) (text : Text) (e : Env) (old new vars : Held) (r : Worth) (number : ℤ) (marks placed : Marks) → old ≡ e.vars → new ≡ vars → r ≡ Ok number → Valued e.nounset text (variables_in old) r (variables_in new) → placed ≡ marks ++ given quoted (signed_decimal number) → (k : Ended) (fail : Failed) (p : ℕ) → computed quoted text marks k fail e p ≡ k placed (record e { vars = vars }) p
number_is_put quoted text e old new vars r number marks placed a b c h d k fail p =
    number_put quoted text e vars number marks (valued_by text e old new vars r (Ok number) a b c h) k fail p ∙ ap (λ (ms : Marks). k ms (record e { vars = vars }) p) (sym d)

pub fault_is_told : (quoted : Bool) (text : Text) (e : Env) (old new vars : Held) (r : Worth) (fault : ArithErr) (marks : Marks) (told : Text × Text) → old ≡ e.vars → new ≡ vars → r ≡ Err fault → Valued e.nounset text (variables_in old) r (variables_in new) → IsTold fault → told ≡ (told_of text fault, words_of fault) → (k : Ended) (fail : Failed) (p : ℕ) → computed quoted text marks k fail e p ≡ fail told.0 told.1 (record e { vars = vars }) p
fault_is_told quoted text e old new vars r fault marks told a b c h t d k fail p =
    fault_told quoted text e vars fault marks (valued_by text e old new vars r (Err fault) a b c h) t k fail p ∙ ap (λ (x : Text × Text). fail x.0 x.1 (record e { vars = vars }) p) (sym d)
