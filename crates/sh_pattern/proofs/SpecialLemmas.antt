-- Patterns from one byte to the next.
use Rattle.std.proofs.Common.{◌≡◌, ℕ, suc, ◌+◌, [], ◌∷◌, ◌++◌, drop, drop-drop, subst, refl, sym, ap, ◌∙◌, arith, inl, inr}
use Rattle.std.specs.Prelude.{Bool, true, false, ◌||◌}
use Rattle.std.proofs.lemmas.Bool.Decides.{eqb_tells}
use Rattle.rk_base.specs.Text.{Text}
use Rattle.sh_pattern.specs.Sets.{value, extra}
use Rattle.sh_pattern.specs.Special.{is_special, has_special, unquoted}

-- what stands behind so many bytes after one
pub rest : (pattern : Text) (at : ℕ) (b : ℕ) (bs : Text) (n : ℕ) → drop at pattern ≡ b ∷ bs → drop n bs ≡ drop (at + (1 + n)) pattern
rest pattern at b bs n e =
    let f : at + (1 + n) ≡ at + suc n = omega arith in
    ap (drop (suc n)) (sym e) ∙ (drop-drop (suc n) at pattern ∙ ap (λ k. drop k pattern) (sym f))

append-push : (out : Text) (b : ℕ) (more : Text) → (out ++ b ∷ []) ++ more ≡ out ++ (b ∷ more)
append-push [] b more = refl
append-push (o ∷ out) b more = ap (λ x. o ∷ x) (append-push out b more)

or_false : (b : Bool) → b ≡ (b || false)
or_false true = refl
or_false false = refl

backslash : (b : ℕ) (bs : Text) → b ≡ 92 → false ≡ is_special b bs
backslash b bs e = subst (λ x. false ≡ is_special x bs) (sym e) refl

-- what a byte and the text after it have, the byte or what comes after it has
pub has_special-step : (b : ℕ) (bs : Text) → has_special (b ∷ bs) ≡ (is_special b bs || has_special (drop (extra b bs) bs))
has_special-step b [] = or_false (is_special b [])
has_special-step b (c ∷ cs) =
    elim (eqb_tells b 92) [
      | inl e ↦ rw e.0 (ap (λ x. x || has_special cs) (backslash b (c ∷ cs) e.1))
      | inr e ↦ rw e.0 refl
    ]

pub unquoted-step : (b : ℕ) (bs : Text) → unquoted (b ∷ bs) ≡ value b bs ∷ unquoted (drop (extra b bs) bs)
unquoted-step b [] = refl
unquoted-step b (c ∷ cs) = elim (eqb_tells b 92) [ inl e ↦ rw e.0 refl | inr e ↦ rw e.0 refl ]

-- one byte further
pub special_goes : (pattern : Text) (at : ℕ) (b : ℕ) (bs : Text) → drop at pattern ≡ b ∷ bs → is_special b bs ≡ false → has_special (drop at pattern) ≡ has_special (drop (at + (1 + extra b bs)) pattern)
special_goes pattern at b bs e f =
    ap has_special e ∙ (has_special-step b bs ∙ (ap (λ x. x || has_special (drop (extra b bs) bs)) f ∙ ap has_special (rest pattern at b bs (extra b bs) e)))

pub special_is : (pattern : Text) (at : ℕ) (b : ℕ) (bs : Text) → drop at pattern ≡ b ∷ bs → is_special b bs ≡ true → has_special (drop at pattern) ≡ true
special_is pattern at b bs e f = ap has_special e ∙ (has_special-step b bs ∙ ap (λ x. x || has_special (drop (extra b bs) bs)) f)

pub unquoted_goes : (pattern : Text) (at : ℕ) (b : ℕ) (bs : Text) (out : Text) → drop at pattern ≡ b ∷ bs → (out ++ value b bs ∷ []) ++ unquoted (drop (at + (1 + extra b bs)) pattern) ≡ out ++ unquoted (drop at pattern)
unquoted_goes pattern at b bs out e =
    append-push out (value b bs) (unquoted (drop (at + (1 + extra b bs)) pattern)) ∙ ap (λ x. out ++ x) (ap (λ x. value b bs ∷ unquoted x) (sym (rest pattern at b bs (extra b bs) e)) ∙ (sym (unquoted-step b bs) ∙ ap unquoted (sym e)))
