use Rattle.std.proofs.Common.{◌≡◌, ◌≢◌, ℕ, suc, inl, inr, ◌≤◌, ◌<◌, ◌++◌, List, [], ◌∷◌, length, take, drop, get_or, drop-cons, true, false, refl, sym, ap, ◌∙◌, arith}
use Rattle.std.specs.Prelude.{◌==◌}
use Rattle.std.proofs.lemmas.Bool.Decides.{eqb_tells}
use Rattle.std.proofs.lemmas.List.{append-nil, drop_all}
use Rattle.rk_base.specs.Text.{Text}
use Rattle.ut_text.specs.Cmps.{common}
use Rattle.ut_text.proofs.cmp.common.Goals as goal
use Rattle.ut_text.proofs.cmp.common.Goals.{then-bytes-test+then-at-b+else-a-at, then-bytes-test+else-at-b, else-bytes-test}

common-nil : (a : Text) → common a [] ≡ []
common-nil [] = refl
common-nil (x ∷ xs) = refl

differ : (x y : ℕ) (xs ys a b : Text) → a ≡ x ∷ xs → b ≡ y ∷ ys → (x == y) ≡ false → common a b ≡ []
differ x y xs ys a b e f h = ap (λ z. common z b) e ∙ ap (common (x ∷ xs)) f ∙ rw h refl

stopped : (at : ℕ) (a b : Text) → take at a ++ common (drop at a) (drop at b) ≡ common a b → common (drop at a) (drop at b) ≡ [] → take at a ≡ common a b
stopped at a b e f = sym (ap (λ z. take at a ++ z) f ∙ append-nil (take at a)) ∙ e

not_same : (x y : ℕ) → x ≢ y → (x == y) ≡ false
not_same x y h = elim (eqb_tells x y) [ inl e ↦ absurd (h e.1) | inr e ↦ e.0 ]

pub returns : goal.returns
returns c =
    c.split_at.ensures.front ∙ stopped c.bytes.at c.args.a.now c.args.b.now c.bytes.invariant.2
    (elim c.bytes-test.branch [
      | then-bytes-test+then-at-b+else-a-at w ↦ differ _ _ _ _ _ _ (drop-cons c.args.a.now c.bytes.at 0 (omega arith)) (drop-cons c.args.b.now c.bytes.at 0 (omega arith)) (not_same _ _ w.if-a-at.false)
      | then-bytes-test+else-at-b w ↦ ap (common (drop c.bytes.at c.args.a.now)) (drop_all c.bytes.at c.args.b.now (omega arith)) ∙ common-nil _
      | else-bytes-test w ↦ ap (λ z. common z (drop c.bytes.at c.args.b.now)) (drop_all c.bytes.at c.args.a.now (omega arith))
    ])
