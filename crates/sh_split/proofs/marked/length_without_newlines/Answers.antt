use Rattle.std.proofs.Common.{◌≡◌, ℕ, zero, suc, ◌+◌, ◌≤◌, ◌<◌, [], ◌∷◌, length, take, get_or, refl, sym, ap, ◌∙◌, arith, inl, inr}
use Rattle.std.specs.Prelude.{◌==◌, ◌&&◌, if◌then◌else◌}
use Rattle.std.proofs.lemmas.Bool.Decides.{eqb_tells}
use Rattle.rk_base.specs.Text.{Text}
use Rattle.rk_base.specs.Canonical.{is_empty}
use Rattle.sh_split.specs.Marked.{without_newlines}
use Rattle.sh_split.proofs.marked.length_without_newlines.Goals as goal

kept : (b : ℕ) (rest : Text) → (b ≡ 10 → rest ≡ [] → ⊥) → b ∷ rest ≡ (if (b == 10) && is_empty rest then [] else b ∷ rest)
kept b [] h = elim (eqb_tells b 10) [ inl e ↦ absurd (h e.1 refl) | inr e ↦ rw e.0 refl ]
kept b (c ∷ cs) h = elim (eqb_tells b 10) [ inl e ↦ rw e.0 refl | inr e ↦ rw e.0 refl ]

dropped : (b : ℕ) (rest : Text) → b ≡ 10 → rest ≡ [] → [] ≡ (if (b == 10) && is_empty rest then [] else b ∷ rest)
dropped b rest e f = rw (e, f) refl

take_some : (n : ℕ) (bs : Text) → suc n ≤ length bs → take (suc n) bs ≡ [] → ⊥
take_some n [] h e = absurd (omega arith)
take_some n (b ∷ bs) h e = absurd (cc)

cut : (text : Text) (end : ℕ) → end ≤ length text → ((k : ℕ) → end ≤ k → k < length text → get_or text k 0 ≡ 10) → ((k : ℕ) → k + 1 ≡ end → get_or text k 0 ≡ 10 → ⊥) → take end text ≡ without_newlines text
cut [] zero h all last = refl
cut [] (suc n) h all last = refl
cut (b ∷ bs) zero h all last =
    dropped b (without_newlines bs) (all 0 (omega arith) (omega arith)) (sym (cut bs zero (omega arith) (λ k g l. all (suc k) (omega arith) (omega arith)) (λ k e. absurd (omega arith))))
cut (b ∷ bs) (suc zero) h all last =
    let again : take 0 bs ≡ without_newlines bs = cut bs zero (omega arith) (λ k g l. all (suc k) (omega arith) (omega arith)) (λ k e. absurd (omega arith)) in
    ap (λ x. b ∷ x) again ∙ kept b (without_newlines bs) (λ e f. last 0 (omega arith) e)
cut (b ∷ bs) (suc (suc n)) h all last =
    let again : take (suc n) bs ≡ without_newlines bs = cut bs (suc n) (omega arith) (λ k g l. all (suc k) (omega arith) (omega arith)) (λ k e. last (suc k) (omega arith)) in
    ap (λ x. b ∷ x) again ∙ kept b (without_newlines bs) (λ e f. take_some n bs (omega arith) (again ∙ f))

pub returns-clause-value : goal.returns-clause-value
returns-clause-value c = cut c.args.text.now c.loop-i.end (omega arith) (λ k g l. c.loop-i.invariant.1 k g (omega arith)) c.loop-i.invariant.2
