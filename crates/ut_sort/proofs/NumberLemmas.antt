-- Zeros at the end of digits.
use Rattle.std.proofs.Common.{◌≡◌, ℕ, suc, ◌-◌, ◌≤◌, [], ◌∷◌, ◌++◌, length, get_or, take, refl, sym, ap, ◌∙◌, true, false, arith}
use Rattle.std.specs.Prelude.{◌==◌}
use Rattle.std.proofs.Math.Seq.{take-suc}
use Rattle.std.proofs.lemmas.List.{take_all}
use Rattle.std.proofs.lemmas.Bool.{ne_eqb}
use Rattle.rk_base.specs.Text.{Text}
use Rattle.ut_sort.specs.Numbers.{before_trimmed, trimmed}

pub trimmed-zero : (front : Text) (b : ℕ) → (b == 48) ≡ true → trimmed (front ++ b ∷ []) ≡ trimmed front
trimmed-zero [] b e = rw e refl
trimmed-zero (c ∷ cs) b e = ap (before_trimmed c) (trimmed-zero cs b e)

more : (c b : ℕ) (cs : Text) → before_trimmed c (cs ++ b ∷ []) ≡ c ∷ (cs ++ b ∷ [])
more c b [] = refl
more c b (d ∷ ds) = refl

pub trimmed-digit : (front : Text) (b : ℕ) → (b == 48) ≡ false → trimmed (front ++ b ∷ []) ≡ front ++ b ∷ []
trimmed-digit [] b e = rw e refl
trimmed-digit (c ∷ cs) b e = ap (before_trimmed c) (trimmed-digit cs b e) ∙ more c b cs

-- what stands before the last digit, and that one
ends : (digits : Text) → 1 ≤ length digits → digits ≡ take (length digits - 1) digits ++ get_or digits (length digits - 1) 0 ∷ []
ends digits h =
    let e : suc (length digits - 1) ≡ length digits = omega arith in
    sym (ap (λ n. take n digits) e ∙ take_all (length digits) digits (omega arith)) ∙ take-suc digits (length digits - 1) 0 (omega arith)

pub without_zero : (digits : Text) → 1 ≤ length digits → get_or digits (length digits - 1) 0 ≡ 48 → trimmed (take (length digits - 1) digits) ≡ trimmed digits
without_zero digits h e =
    let f : (get_or digits (length digits - 1) 0 == 48) ≡ true = ap (λ b. b == 48) e in
    sym (ap trimmed (ends digits h) ∙ trimmed-zero (take (length digits - 1) digits) (get_or digits (length digits - 1) 0) f)

pub with_digit : (digits : Text) → 1 ≤ length digits → (get_or digits (length digits - 1) 0 ≡ 48 → ⊥) → digits ≡ trimmed digits
with_digit digits h e =
    let f : (get_or digits (length digits - 1) 0 == 48) ≡ false = ne_eqb _ _ e in
    ends digits h ∙ sym (ap trimmed (ends digits h) ∙ trimmed-digit (take (length digits - 1) digits) (get_or digits (length digits - 1) 0) f)
