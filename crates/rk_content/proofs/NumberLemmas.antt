-- Contents that are the same have one number.
use Rattle.std.proofs.Common.{◌≡◌, ℕ, zero, suc, List, [], ◌∷◌, Bool, true, false, Some, refl, sym, ap, ◌∙◌}
use Rattle.std.proofs.lemmas.Bool.{eqb-true, eq-eqb}
use Rattle.std.specs.Cmp.Lexicographic.{bytes_decides}
use Rattle.std.specs.List.{IsDistinct, AllByRecursion}
use Rattle.std.specs.Prelude.{slice_get, nat_eq, IsTrue, ◌↔◌}
use Rattle.rk_base.specs.Text.{Text, same_text}

clash : (b : Bool) → b ≡ true → b ≡ false → ⊥
clash b t f = cc

-- what differs from each of them isn't among them
none_later : (x : Text) (xs : List Text) (j : ℕ) → AllByRecursion (λ y. same_text x y ≡ false) xs → slice_get xs j ≡ Some x → ⊥
none_later x [] j all at = cc
none_later x (y ∷ xs) zero all at = let e : y ≡ x = cc in clash (same_text x y) ((bytes_decides x y).1 (sym e)) all.0
none_later x (y ∷ xs) (suc j) all at = none_later x xs j all.1 at

one_number : (texts : List Text) (i j : ℕ) (text : Text) → IsDistinct same_text texts → slice_get texts i ≡ Some text → slice_get texts j ≡ Some text → i ≡ j
unfolding IsDistinct
one_number [] i j text once a b = cc
one_number (x ∷ xs) zero zero text once a b = refl
one_number (x ∷ xs) zero (suc j) text once a b = absurd (none_later x xs j once.0 (b ∙ sym a))
one_number (x ∷ xs) (suc i) zero text once a b = absurd (none_later x xs i once.0 (a ∙ sym b))
one_number (x ∷ xs) (suc i) (suc j) text once a b = ap suc (one_number xs i j text once.1 a b)

one_text : (texts : List Text) (i j : ℕ) (text other : Text) → slice_get texts i ≡ Some text → slice_get texts j ≡ Some other → i ≡ j → text ≡ other
one_text texts i j text other a b e = let both : Some text ≡ Some other = sym a ∙ ap (slice_get texts) e ∙ b in cc

-- where each content stands once, numbers are the same exactly where the contents are
pub same_number : (texts : List Text) (i j a b : ℕ) → i ≡ a → j ≡ b → IsDistinct same_text texts → (text other : Text) → slice_get texts a ≡ Some text → slice_get texts b ≡ Some other → IsTrue (nat_eq i j) ↔ (text ≡ other)
same_number texts i j a b is js once text other at bt =
    (λ t. one_text texts a b text other at bt (sym is ∙ eqb-true i j t ∙ js), λ e. eq-eqb i j (is ∙ one_number texts a b other once (at ∙ ap (λ (t : Text). Some t) e) bt ∙ sym js))
