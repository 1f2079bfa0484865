-- The last of a list goes.
use Rattle.std.proofs.Common.{◌≡◌, ℕ, suc, ◌-◌, List, [], ◌∷◌, ◌++◌, Bool, Option, Some, None, refl, sym, ap, ◌∙◌, length, arith}
use Rattle.std.specs.Prelude.{option_to_list, MatchOption, ◌+◌, slice_get}
use Rattle.sh_token.specs.Steps.{popped, last_around, or_false}
use Rattle.sh_token.specs.Places.{OuterText, last_paren}

popped_one : {A : Type 0} (xs : List A) (x : A) → popped (xs ++ x ∷ []) ≡ xs
popped_one [] x = refl
popped_one (y ∷ []) x = refl
popped_one (y ∷ (z ∷ xs)) x = ap (λ xs. y ∷ xs) (popped_one (z ∷ xs) x)

last_one : (xs : List OuterText) (x : OuterText) → last_around (xs ++ x ∷ []) ≡ Some x
last_one [] x = refl
last_one (y ∷ []) x = refl
last_one (y ∷ (z ∷ xs)) x = last_one (z ∷ xs) x

paren_one : (xs : List Bool) (x : Bool) → last_paren (xs ++ x ∷ []) ≡ x
paren_one [] x = refl
paren_one (y ∷ []) x = refl
paren_one (y ∷ (z ∷ xs)) x = paren_one (z ∷ xs) x

nil : {A : Type 0} (xs : List A) → length xs ≡ 0 → xs ≡ []
nil [] h = refl
nil (x ∷ xs) h = cc

pub pops : {A : Type 0} (xs ys : List A) (m n : ℕ) (o : Option A) → n ≡ length xs → m ≡ length ys → xs ≡ ys ++ option_to_list o → MatchOption o ((n ≡ 0) × (m ≡ 0)) (λ _. m + 1 ≡ n) → ys ≡ popped xs
pops xs ys m n None i j e c = nil ys (sym j ∙ c.1) ∙ ap popped (sym (nil xs (sym i ∙ c.0)))
pops xs ys m n (Some x) i j e c = sym (popped_one ys x) ∙ ap popped (sym e)

pub lasts : (xs ys : List OuterText) (m n : ℕ) (o : Option OuterText) → n ≡ length xs → m ≡ length ys → xs ≡ ys ++ option_to_list o → MatchOption o ((n ≡ 0) × (m ≡ 0)) (λ _. m + 1 ≡ n) → o ≡ last_around xs
lasts xs ys m n None i j e c = ap last_around (sym (nil xs (sym i ∙ c.0)))
lasts xs ys m n (Some x) i j e c = sym (last_one ys x) ∙ ap last_around (sym e)

pub parens : (xs ys : List Bool) (m n : ℕ) (o : Option Bool) → n ≡ length xs → m ≡ length ys → xs ≡ ys ++ option_to_list o → MatchOption o ((n ≡ 0) × (m ≡ 0)) (λ _. m + 1 ≡ n) → or_false o ≡ last_paren xs
parens xs ys m n None i j e c = ap last_paren (sym (nil xs (sym i ∙ c.0)))
parens xs ys m n (Some x) i j e c = sym (paren_one ys x) ∙ ap last_paren (sym e)

-- the last of a list where it stays
pub last_is : (xs : List Bool) (x : Bool) → slice_get xs (length xs - 1) ≡ Some x → x ≡ last_paren xs
last_is [] x h = cc
last_is (y ∷ []) x h = cc
last_is (y ∷ (z ∷ xs)) x h =
    let a : suc (length xs) ≡ length (y ∷ (z ∷ xs)) - 1 = omega arith in
    let b : length (z ∷ xs) - 1 ≡ length xs = omega arith in
    last_is (z ∷ xs) x (ap (slice_get (z ∷ xs)) b ∙ (ap (slice_get (y ∷ (z ∷ xs))) a ∙ h))
