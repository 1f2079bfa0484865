-- What is drawn, one after another.
use Rattle.std.proofs.Common.{◌≡◌, ℕ, ◌+◌, ◌*◌, ◌/◌, ◌%◌, ◌^◌, List, [], ◌∷◌, ◌++◌, ◌∙◌, ap, refl, sym, add-one}
use Rattle.std.proofs.Math.Nat.{mod-add-mod}
use Rattle.rk_gen.specs.Draws.{Drawn, draw, drawn_all, next, with_next}

-- the product may be cut to 64 bits before the sum is
pub moves : (x now : ℕ) → x ≡ now → (x * 6364136223846793005 % 2 ^ 64 + 1442695040888963407) % 2 ^ 64 ≡ next now
unfolding next
moves x now e = mod-add-mod (x * 6364136223846793005) (2 ^ 64) 1442695040888963407 ∙ ap (λ (n : ℕ). (n * 6364136223846793005 + 1442695040888963407) % 2 ^ 64) e

pub draws : (m x now : ℕ) → x ≡ now → (x * 6364136223846793005 % 2 ^ 64 + 1442695040888963407) % 2 ^ 64 / 2 ^ 33 % m ≡ draw m now
unfolding draw
draws m x now e = ap (λ (n : ℕ). n / 2 ^ 33 % m) (moves x now e)

one-more : {A : Type 0} (one : ℕ → ℕ → Drawn A) (i x : ℕ) → drawn_all one (i + 1) x ≡ with_next (one i) (drawn_all one i x)
unfolding drawn_all
one-more one i x = rw add-one refl

-- one more is made after others
pub more-made : {A : Type 0} (one : ℕ → ℕ → Drawn A) (i x at : ℕ) (made now : List A) (it : A) → made ≡ (drawn_all one i x).made → at ≡ (drawn_all one i x).after → it ≡ (one i at).made → now ≡ made ++ it ∷ [] → now ≡ (drawn_all one (i + 1) x).made
more-made one i x at made now it is_made is_at is_it is_now =
    is_now ∙ ap (λ m. m ++ it ∷ []) is_made ∙ ap (λ a. (drawn_all one i x).made ++ a ∷ []) (is_it ∙ ap (λ (a : ℕ). (one i a).made) is_at)
    ∙ ap (λ d. d.made) (sym (one-more one i x))

-- and x stands after it
pub more-after : {A : Type 0} (one : ℕ → ℕ → Drawn A) (i x at now : ℕ) → at ≡ (drawn_all one i x).after → now ≡ (one i at).after → now ≡ (drawn_all one (i + 1) x).after
more-after one i x at now is_at is_now =
    is_now ∙ ap (λ (a : ℕ). (one i a).after) is_at ∙ ap (λ d. d.after) (sym (one-more one i x))
