-- Lists of moves, and each command's own.
use Rattle.std.proofs.Common.{◌≡◌, ◌≢◌, ℕ, ◌≤◌, List, [], ◌∷◌, ◌++◌, Bool, true, false, cond, filter, ◌⊎◌, inl, inr, refl, sym, ◌∙◌, ap, subst}
use Rattle.std.proofs.lemmas.Bool.Decides.{eqb_tells}
use Rattle.std.specs.Prelude.{◌==◌}
use Rattle.rk_waves.specs.Tests.{either}
use Rattle.rk_waves.specs.Waves.{Move, Each, own, KeepsOwn}

abbrev pub In : {X : Type 0} → X → List X → Type 0
In x [] = ⊥
In x (y ∷ ys) = (x ≡ y) ⊎ In x ys

pub each-in : {X : Type 0} (P : X → Type 0) (xs : List X) (x : X) → Each P xs → In x xs → P x
each-in P [] x h i = absurd i
each-in P (y ∷ ys) x h i = elim i [ inl e ↦ subst P (sym e) h.0 | inr i ↦ each-in P ys x h.1 i ]

pub each-by : {X : Type 0} (P : X → Type 0) (xs : List X) → ((x : X) → In x xs → P x) → Each P xs
each-by P [] f = tt
each-by P (y ∷ ys) f = (f y (inl refl), each-by P ys (λ x i. f x (inr i)))

pub each-map : {X : Type 0} (P Q : X → Type 0) (xs : List X) → ((x : X) → P x → Q x) → Each P xs → Each Q xs
each-map P Q [] f h = tt
each-map P Q (y ∷ ys) f h = (f y h.0, each-map P Q ys f h.1)

pub each-join : {X : Type 0} (P : X → Type 0) (xs ys : List X) → Each P xs → Each P ys → Each P (xs ++ ys)
each-join P [] ys h k = k
each-join P (x ∷ xs) ys h k = (h.0, each-join P xs ys h.1 k)

pub each-left : {X : Type 0} (P : X → Type 0) (xs ys : List X) → Each P (xs ++ ys) → Each P xs
each-left P [] ys h = tt
each-left P (x ∷ xs) ys h = (h.0, each-left P xs ys h.1)

pub each-right : {X : Type 0} (P : X → Type 0) (xs ys : List X) → Each P (xs ++ ys) → Each P ys
each-right P [] ys h = h
each-right P (x ∷ xs) ys h = each-right P xs ys h.1

-- Filters.

pub filter-here : {X : Type 0} (p : X → Bool) (x : X) (xs : List X) → p x ≡ true → filter p (x ∷ xs) ≡ x ∷ filter p xs
filter-here p x xs e = ap (λ b. cond b (x ∷ filter p xs) (filter p xs)) e

pub filter-there : {X : Type 0} (p : X → Bool) (x : X) (xs : List X) → p x ≡ false → filter p (x ∷ xs) ≡ filter p xs
filter-there p x xs e = ap (λ b. cond b (x ∷ filter p xs) (filter p xs)) e

pub filter-join : {X : Type 0} (p : X → Bool) (xs ys : List X) → filter p (xs ++ ys) ≡ filter p xs ++ filter p ys
filter-join p [] ys = refl
filter-join p (x ∷ xs) ys = go (p x) (filter-join p xs ys)
  where
    go : (b : Bool) → filter p (xs ++ ys) ≡ filter p xs ++ filter p ys
        → cond b (x ∷ filter p (xs ++ ys)) (filter p (xs ++ ys)) ≡ cond b (x ∷ filter p xs) (filter p xs) ++ filter p ys
    go true e = ap (λ l. x ∷ l) e
    go false e = e

pub filter-swap : {X : Type 0} (p q : X → Bool) (xs : List X) → filter p (filter q xs) ≡ filter q (filter p xs)
filter-swap p q [] = refl
filter-swap p q (x ∷ xs) =
    either (p x)
    (λ passes. either (q x)
    (λ also. ap (filter p) (filter-here q x xs also) ∙ filter-here p x (filter q xs) passes ∙ ap (λ l. x ∷ l) (filter-swap p q xs)
    ∙ sym (filter-here q x (filter p xs) also) ∙ ap (filter q) (sym (filter-here p x xs passes)))
    (λ misses. ap (filter p) (filter-there q x xs misses) ∙ filter-swap p q xs
    ∙ sym (filter-there q x (filter p xs) misses) ∙ ap (filter q) (sym (filter-here p x xs passes))))
    (λ fails. either (q x)
    (λ also. ap (filter p) (filter-here q x xs also) ∙ filter-there p x (filter q xs) fails ∙ filter-swap p q xs
    ∙ ap (filter q) (sym (filter-there p x xs fails)))
    (λ misses. ap (filter p) (filter-there q x xs misses) ∙ filter-swap p q xs ∙ ap (filter q) (sym (filter-there p x xs fails))))

-- where all pass, and where none does
pub filter-all : {X : Type 0} (p : X → Bool) (xs : List X) → Each (λ x. p x ≡ true) xs → filter p xs ≡ xs
filter-all p [] h = refl
filter-all p (x ∷ xs) h = filter-here p x xs h.0 ∙ ap (λ l. x ∷ l) (filter-all p xs h.1)

pub filter-none : {X : Type 0} (p : X → Bool) (xs : List X) → Each (λ x. p x ≡ false) xs → filter p xs ≡ []
filter-none p [] h = refl
filter-none p (x ∷ xs) h = filter-there p x xs h.0 ∙ filter-none p xs h.1

pub each-filter : {X : Type 0} (P : X → Type 0) (p : X → Bool) (xs : List X) → Each P xs → Each P (filter p xs)
each-filter P p [] h = tt
each-filter P p (x ∷ xs) h =
    either (p x)
    (λ passes. subst (Each P) (sym (filter-here p x xs passes)) (h.0, each-filter P p xs h.1))
    (λ fails. subst (Each P) (sym (filter-there p x xs fails)) (each-filter P p xs h.1))

pub each-passes : {X : Type 0} (p : X → Bool) (xs : List X) → Each (λ x. p x ≡ true) (filter p xs)
each-passes p [] = tt
each-passes p (x ∷ xs) =
    either (p x)
    (λ passes. subst (Each (λ x. p x ≡ true)) (sym (filter-here p x xs passes)) (passes, each-passes p xs))
    (λ fails. subst (Each (λ x. p x ≡ true)) (sym (filter-there p x xs fails)) (each-passes p xs))

-- Moves.

module _ {T : Type 0} where
  -- in no falling order of waves
  abbrev pub Rising : List (Move T) → Type 0
  Rising [] = Unit {0}
  Rising (m ∷ ms) = Each (λ n. m.wave ≤ n.wave) ms × Rising ms

  pub own-here : (o : ℕ) (m : Move T) (ms : List (Move T)) → (m.owner == o) ≡ true → own o (m ∷ ms) ≡ m ∷ own o ms
  own-here o m ms e = filter-here (λ m. m.owner == o) m ms e

  pub own-there : (o : ℕ) (m : Move T) (ms : List (Move T)) → (m.owner == o) ≡ false → own o (m ∷ ms) ≡ own o ms
  own-there o m ms e = filter-there (λ m. m.owner == o) m ms e

  pub own-join : (o : ℕ) (ms ns : List (Move T)) → own o (ms ++ ns) ≡ own o ms ++ own o ns
  own-join o ms ns = filter-join (λ m. m.owner == o) ms ns

  pub in-own : (ms : List (Move T)) (m : Move T) → In m ms → In m (own m.owner ms)
  in-own [] m i = i
  in-own (n ∷ ms) m i =
      elim (eqb_tells n.owner m.owner) [
        | inl e ↦ subst (In m) (sym (own-here m.owner n ms e.0)) (elim i [ inl is ↦ inl is | inr j ↦ inr (in-own ms m j) ])
        | inr e ↦ subst (In m) (sym (own-there m.owner n ms e.0)) (elim i [ inl is ↦ absurd (e.1 (ap (λ x. x.owner) (sym is))) | inr j ↦ in-own ms m j ])
      ]

  pub own-in : (o : ℕ) (ms : List (Move T)) (m : Move T) → In m (own o ms) → In m ms
  own-in o [] m i = i
  own-in o (n ∷ ms) m i =
      elim (eqb_tells n.owner o) [
        | inl e ↦ elim (subst (In m) (own-here o n ms e.0) i) [ inl is ↦ inl is | inr j ↦ inr (own-in o ms m j) ]
        | inr e ↦ inr (own-in o ms m (subst (In m) (own-there o n ms e.0) i))
      ]

  -- what holds of all steps holds of them in another order
  pub kept-each : (P : Move T → Type 0) (ms ns : List (Move T)) → KeepsOwn ns ms → Each P ms → Each P ns
  kept-each P ms ns keeps h = each-by P ns (λ m i. each-in P ms m h (own-in m.owner ms m (subst (In m) (keeps m.owner) (in-own ns m i))))

  -- where a command's first step stands
  pub record Standing (o : ℕ) (ns : List (Move T)) (m : Move T) (rest : List (Move T)) : Type 0 where
    pub before : List (Move T)
    pub behind : List (Move T)
    pub is : ns ≡ before ++ m ∷ behind
    pub none : own o before ≡ []
    pub rest_is : own o behind ≡ rest

  pub first_of_own : (o : ℕ) (ns : List (Move T)) (m : Move T) (rest : List (Move T)) → own o ns ≡ m ∷ rest → Standing o ns m rest
  first_of_own o [] m rest e = absurd (cc e)
  first_of_own o (n ∷ ns) m rest e =
      elim (eqb_tells n.owner o) [
        | inl t ↦
            let both : n ∷ own o ns ≡ m ∷ rest = sym (own-here o n ns t.0) ∙ e in
            record { before = []; behind = ns; is = ap (λ x. x ∷ ns) (ap (head_or n) both); none = refl; rest_is = ap tail both }
        | inr t ↦
            let more : Standing o ns m rest = first_of_own o ns m rest (sym (own-there o n ns t.0) ∙ e) in
            record {
              before = n ∷ more.before;
              behind = more.behind;
              is = ap (λ l. n ∷ l) more.is;
              none = own-there o n more.before t.0
                  ∙ more.none;
              rest_is = more.rest_is;
            }
      ]
    where
      head_or : Move T → List (Move T) → Move T
      head_or x [] = x
      head_or x (y ∷ ys) = y

      tail : List (Move T) → List (Move T)
      tail [] = []
      tail (y ∷ ys) = ys

  pub none_at_all : (ns : List (Move T)) → ((o : ℕ) → own o ns ≡ []) → ns ≡ []
  none_at_all [] h = refl
  none_at_all (n ∷ ns) h = absurd (subst (In n) (h n.owner) (in-own (n ∷ ns) n (inl refl)))

  pub each-owner : (o : ℕ) (ns : List (Move T)) → own o ns ≡ [] → Each (λ n. n.owner ≢ o) ns
  each-owner o ns e = each-by (λ n. n.owner ≢ o) ns (λ n i is. subst (In n) (ap (λ p. own p ns) is ∙ e) (in-own ns n i))

  pub rising-left : (us vs : List (Move T)) (m : Move T) → Rising (us ++ m ∷ vs) → Each (λ u. u.wave ≤ m.wave) us
  rising-left [] vs m h = tt
  rising-left (u ∷ us) vs m h = ((each-right (λ n. u.wave ≤ n.wave) us (m ∷ vs) h.0).0, rising-left us vs m h.1)

  pub rising-without : (us vs : List (Move T)) (m : Move T) → Rising (us ++ m ∷ vs) → Rising (us ++ vs)
  rising-without [] vs m h = h.1
  rising-without (u ∷ us) vs m h = (
    each-join (λ n. u.wave ≤ n.wave) us vs (each-left (λ n. u.wave ≤ n.wave) us (m ∷ vs) h.0) (each-right (λ n. u.wave ≤ n.wave) us (m ∷ vs) h.0).1,
    rising-without us vs m h.1,
  )
