-- The lists that a builder has.
use Rattle.std.proofs.Common.{◌≡◌, List, [], ◌∷◌, ◌++◌, map, refl, sym, ap, ◌∙◌}
use Rattle.std.specs.Prelude.{Option, Some, None, option_map, option_to_list}
use Rattle.std.specs.Prelude.{reverse}
use Rattle.std.proofs.lemmas.List.{reverse-append}
use Rattle.sh_script.specs.States.{last, but_last, front, last_taken}

last-append : {A : Type 0} (xs : List A) (x : A) → last (xs ++ x ∷ []) ≡ Some x
last-append [] x = refl
last-append (y ∷ []) x = refl
last-append (y ∷ (z ∷ zs)) x = last-append (z ∷ zs) x

but_last-append : {A : Type 0} (xs : List A) (x : A) → but_last (xs ++ x ∷ []) ≡ xs
but_last-append [] x = refl
but_last-append (y ∷ []) x = refl
but_last-append (y ∷ (z ∷ zs)) x = ap (λ l. y ∷ l) (but_last-append (z ∷ zs) x)

map-push : {A B : Type 0} (f : A → B) (xs : List A) (x : A) → map f (xs ++ x ∷ []) ≡ map f xs ++ f x ∷ []
map-push f [] x = refl
map-push f (y ∷ ys) x = ap (λ l. f y ∷ l) (map-push f ys x)

append_none : {A : Type 0} (xs : List A) → xs ++ [] ≡ xs
append_none [] = refl
append_none (x ∷ xs) = ap (λ l. x ∷ l) (append_none xs)

pub body_added : {A B : Type 0} (f : A → B) (xs ys : List A) (x : A) → ys ≡ xs ++ x ∷ [] → map f ys ≡ map f xs ++ f x ∷ []
body_added f xs ys x e = ap (map f) e ∙ map-push f xs x

-- the last is taken, where there is one
pub last_seen : {A B : Type 0} (f : A → B) (old new : List A) (r : Option A) → old ≡ new ++ option_to_list r → (r ≡ None → new ≡ []) → option_map f r ≡ last (map f old)
last_seen f old new None e none = sym (ap (λ l. last (map f l)) (e ∙ append_none new ∙ none refl))
last_seen f old new (Some x) e none = sym (ap (λ l. last (map f l)) e ∙ ap last (map-push f new x) ∙ last-append (map f new) (f x))

pub but_last_seen : {A B : Type 0} (f : A → B) (old new : List A) (r : Option A) → old ≡ new ++ option_to_list r → (r ≡ None → new ≡ []) → map f new ≡ but_last (map f old)
but_last_seen f old new None e none = ap (map f) (none refl) ∙ sym (ap (λ l. but_last (map f l)) (e ∙ append_none new ∙ none refl))
but_last_seen f old new (Some x) e none = sym (ap (λ l. but_last (map f l)) e ∙ ap but_last (map-push f new x) ∙ but_last-append (map f new) (f x))

-- the lists of a stack, the one on top in front
pushed_seen : {A B : Type 0} (f : A → B) (old new : List A) (x : A) → new ≡ old ++ x ∷ [] → reverse (map f new) ≡ f x ∷ reverse (map f old)
pushed_seen f old new x e = ap (λ l. reverse (map f l)) e ∙ ap reverse (map-push f old x) ∙ reverse-append (map f old) (f x ∷ [])

pub front_seen : {A B : Type 0} (f : A → List B) (old new : List A) (x : A) → old ≡ new ++ x ∷ [] → front (reverse (map f old)) ≡ f x
unfolding front
front_seen f old new x e = ap front (pushed_seen f new old x e)

pub taken_seen : {A B : Type 0} (f : A → List B) (old new rest : List A) (x y : A) → old ≡ rest ++ x ∷ [] → new ≡ rest ++ y ∷ [] → f y ≡ but_last (f x) → reverse (map f new) ≡ last_taken (reverse (map f old))
taken_seen f old new rest x y e h less =
    pushed_seen f rest new y h ∙ ap (λ l. l ∷ reverse (map f rest)) less ∙ sym (ap last_taken (pushed_seen f rest old x e))
