-- The best part, as a function.
use Rattle.std.proofs.Common.{◌≡◌, ℕ, zero, suc, ◌-◌, ◌≤◌, length, length-drop, take, drop, refl, sym, ap, ◌∙◌, subst, arith, inl, inr, Bool, true, false}
use Rattle.std.specs.Prelude.{Option, Some, None, IfSome, ◌↔◌}
use Rattle.std.proofs.lemmas.Bool.{cases_lt}
use Rattle.std.proofs.lemmas.List.{drop_all}
use Rattle.rk_base.specs.Text.{Text}
use Rattle.sh_pattern.specs.Parts.{parts}
use Rattle.sh_pattern.specs.Matching.{MatchesParts, TellsBest, MatchesPrefix, MatchesSuffix}
use Rattle.sh_pattern.specs.Decided.{is_matched}
use Rattle.sh_pattern.specs.Best.{greatest, least, or_last, best, best_prefix, best_suffix}
use Rattle.sh_pattern.proofs.DecidedLemmas.{there, back}

passes : (f : ℕ → Bool) (n : ℕ) → (f n ≡ true → ⊥) → f n ≡ false
passes f n h = by (f n) refl
  where
    by : (b : Bool) → f n ≡ b → f n ≡ false
    by true e = absurd (h e)
    by false e = e

greatest_none : (f : ℕ → Bool) (n : ℕ) → ((k : ℕ) → k ≤ n → f k ≡ true → ⊥) → greatest f n ≡ None
greatest_none f zero h = rw (passes f 0 (h 0 (omega arith))) refl
greatest_none f (suc n) h = rw (passes f (suc n) (h (suc n) (omega arith))) (greatest_none f n (λ k l. h k (omega arith)))

greatest_some : (f : ℕ → Bool) (n k : ℕ) → k ≤ n → f k ≡ true → ((j : ℕ) → j ≤ n → f j ≡ true → j ≤ k) → greatest f n ≡ Some k
greatest_some f zero k l h most = let z : k ≡ 0 = omega arith in let g : f 0 ≡ true = ap f (sym z) ∙ h in rw g (ap (λ (i : ℕ). Some i) (sym z))
greatest_some f (suc n) k l h most = by (f (suc n)) refl (λ le. greatest_some f n k le h (λ j m g. most j (omega arith) g))
  where
    by : (b : Bool) → f (suc n) ≡ b → (k ≤ n → greatest f n ≡ Some k) → greatest f (suc n) ≡ Some k
    by true e again = let same : k ≡ suc n = (let m : suc n ≤ k = most (suc n) (omega arith) e in omega arith) in rw e (ap (λ (i : ℕ). Some i) (sym same))
    by false e again = rw e (again (elim (cases_lt n k) [
      | inl lt ↦ (let same : k ≡ suc n = omega arith in let g : f (suc n) ≡ true = ap f (sym same) ∙ h in absurd (cc (g, e)))
      | inr ge ↦ ge
    ]))

least_none : (f : ℕ → Bool) (n : ℕ) → ((k : ℕ) → k ≤ n → f k ≡ true → ⊥) → least f n ≡ None
least_none f zero h = rw (passes f 0 (h 0 (omega arith))) refl
least_none f (suc n) h = ap (or_last f (suc n)) (least_none f n (λ k l. h k (omega arith))) ∙ rw (passes f (suc n) (h (suc n) (omega arith))) refl

least_some : (f : ℕ → Bool) (n k : ℕ) → k ≤ n → f k ≡ true → ((j : ℕ) → j ≤ n → f j ≡ true → k ≤ j) → least f n ≡ Some k
least_some f zero k l h most = let z : k ≡ 0 = omega arith in let g : f 0 ≡ true = ap f (sym z) ∙ h in rw g (ap (λ (i : ℕ). Some i) (sym z))
least_some f (suc n) k l h most = elim (cases_lt n k) [
  | inl lt ↦ (let same : k ≡ suc n = omega arith in let g : f (suc n) ≡ true = ap f (sym same) ∙ h in ap (or_last f (suc n)) (least_none f n (λ j m e. let w : k ≤ j = most j (omega arith) e in absurd (omega arith))) ∙ rw g (ap (λ (i : ℕ). Some i) (sym same)))
  | inr ge ↦ ap (or_last f (suc n)) (least_some f n k ge h (λ j m e. most j (omega arith) e))
]

-- what is told is the function's value
told : (longest : Bool) (most : ℕ) (Has : ℕ → Type 0) (f : ℕ → Bool) → ((k : ℕ) → k ≤ most → (Has k ↔ (f k ≡ true))) → (r : Option ℕ) → TellsBest longest most Has r → r ≡ best longest f most
told true most Has f is None h = sym (greatest_none f most (λ k l e. h k l ((is k l).1 e)))
told false most Has f is None h = sym (least_none f most (λ k l e. h k l ((is k l).1 e)))
told true most Has f is (Some k) h = sym (greatest_some f most k h.within ((is k h.within).0 h.has) (λ j l e. h.best j l ((is j l).1 e)))
told false most Has f is (Some k) h = sym (least_some f most k h.within ((is k h.within).0 h.has) (λ j l e. h.best j l ((is j l).1 e)))

pub prefix_told : (pattern text : Text) (longest : Bool) (r : Option ℕ) → TellsBest longest (length text) (MatchesPrefix pattern text) r → r ≡ best_prefix pattern text longest
unfolding is_matched best_prefix
prefix_told pattern text longest r h = told longest (length text) (MatchesPrefix pattern text) (λ k. is_matched pattern (take k text)) (λ k l. (back (parts pattern) (take k text), there (parts pattern) (take k text))) r h

same_end : (text : Text) (n k : ℕ) → length (drop n text) ≡ k → drop n text ≡ drop (length text - k) text
same_end text n k e = let c : length text - n ≡ k = sym (length-drop n text) ∙ e in elim (cases_lt n (length text)) [
  | inl lt ↦ ap (λ (j : ℕ). drop j text) (let f : n ≡ length text - k = omega arith in f)
  | inr ge ↦ drop_all n text ge ∙ sym (drop_all (length text - k) text (omega arith))
]

pub suffix_told : (pattern text : Text) (longest : Bool) (r : Option ℕ) → TellsBest longest (length text) (MatchesSuffix pattern text) r → r ≡ best_suffix pattern text longest
unfolding is_matched best_suffix
suffix_told pattern text longest r h = told longest (length text) (MatchesSuffix pattern text) (λ k. is_matched pattern (drop (length text - k) text)) (λ k l. (
  λ m. back (parts pattern) (drop (length text - k) text) (subst (MatchesParts (parts pattern)) (same_end text m.0 k m.2) m.1),
  λ e. (length text - k, there (parts pattern) (drop (length text - k) text) e, length-drop (length text - k) text ∙ (let f : length text - (length text - k) ≡ k = omega arith in f)),
)) r h

pub within_told : (longest : Bool) (most : ℕ) (Has : ℕ → Type 0) (r : Option ℕ) → TellsBest longest most Has r → IfSome r (λ k. k ≤ most)
within_told longest most Has None h = tt
within_told longest most Has (Some k) h = h.within
