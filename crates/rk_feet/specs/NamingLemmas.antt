-- Numbers by their names.
use Rattle.std.proofs.Common.{◌≡◌, ℕ, suc, ◌<◌, Bool, true, false, ◌&&◌, Option, Some, None, refl, sym, ◌∙◌, ap, ap₂, subst, arith}
use Rattle.std.specs.Prelude.{◌==◌, if◌then◌else◌}
use Rattle.std.proofs.lemmas.Bool.{eqb-true, eq-eqb}
use Rattle.rk_base.proofs.WithinLemmas.{same_is, same_itself}
use Rattle.rk_feet.specs.Named.{Name, Start, Given, Made}
use Rattle.rk_feet.specs.Naming.{same_name, Naming, AreNamed, with_name}

pub clash : (b : Bool) → b ≡ true → b ≡ false → ⊥
clash b t f = cc

pub both : (a b : Bool) → (a && b) ≡ true → (a ≡ true) × (b ≡ true)
both true b h = (refl, h)
both false b h = absurd (clash false h refl)

pub equal : (n : ℕ) → (n == n) ≡ true
equal n = eq-eqb n n refl

pub name-is : (a b : Name) → same_name a b ≡ true → a ≡ b
name-is (Start a) (Start b) e = ap Start (same_is a b e)
name-is (Given a) (Given b) e = ap Given (eqb-true a b e)
name-is (Made r s p m) (Made t u q n) e =
    let one = both (r == t) _ e in
    let two = both (s == u) _ one.1 in
    let three = both (p == q) _ two.1 in
    ap₂ (λ x y. Made x y p m) (eqb-true r t one.0) (eqb-true s u two.0) ∙ ap₂ (λ x y. Made t u x y) (eqb-true p q three.0) (eqb-true m n three.1)
name-is (Start a) (Given b) e = absurd (clash false e refl)
name-is (Start a) (Made t u q n) e = absurd (clash false e refl)
name-is (Given a) (Start b) e = absurd (clash false e refl)
name-is (Given a) (Made t u q n) e = absurd (clash false e refl)
name-is (Made r s p m) (Start b) e = absurd (clash false e refl)
name-is (Made r s p m) (Given b) e = absurd (clash false e refl)

pub name-self : (a : Name) → same_name a a ≡ true
name-self (Start a) = same_itself a
name-self (Given a) = equal a
name-self (Made r s p m) = ap₂ ◌&&◌ (equal r) (ap₂ ◌&&◌ (equal s) (ap₂ ◌&&◌ (equal p) (equal m)))

some-is : {A : Type 0} (a b : A) → Some a ≡ Some b → a ≡ b
some-is a b e = cc

none-some : {A : Type 0} (x : A) → None ≡ Some x → ⊥
none-some x e = cc

-- two names of one number are one
pub one-name : (count : ℕ) (it : Naming) → AreNamed count it → (x y : Name) (n : ℕ) → it.number_of x ≡ Some n → it.number_of y ≡ Some n → x ≡ y
one-name count it named x y n e f = sym (named.there x n e).1 ∙ (named.there y n f).1

-- what is seen by names, where one number's is changed
pub named-set :
    {V : Type 0} (count : ℕ) (it : Naming) → AreNamed count it → (k : Name) (n : ℕ) → it.number_of k ≡ Some n → (old new : Option ℕ → V) (x : V)
    → new (Some n) ≡ x → ((j : ℕ) → (j ≡ n → ⊥) → new (Some j) ≡ old (Some j)) → new None ≡ old None
    → (q : Name) → new (it.number_of q) ≡ (if same_name k q then x else old (it.number_of q))
named-set count it named k n at old new x here other none q = go (same_name k q) refl (it.number_of q) refl
  where
    go : (b : Bool) → same_name k q ≡ b → (o : Option ℕ) → it.number_of q ≡ o → new o ≡ (if b then x else old o)
    go true e o is = ap new (sym is ∙ ap it.number_of (sym (name-is k q e)) ∙ at) ∙ here
    go false e None is = none
    go false e (Some j) is = other j (λ s. clash (same_name k q) (ap (same_name k) (sym (one-name count it named k q n at (is ∙ ap Some s))) ∙ name-self k) e)

-- a name more
pub named-more : (count : ℕ) (it : Naming) → AreNamed count it → (me : Name) → it.number_of me ≡ None → AreNamed (suc count) (with_name it count me)
named-more count it named me free = record { back = back; there = there } where
  back : (n : ℕ) → n < suc count → (if same_name me (if n == count then me else it.name_of n) then Some count else it.number_of
      (if n == count then me else it.name_of n)) ≡ Some n
  back n h = go (n == count) refl
    where
      below : (n ≡ count → ⊥) → n < count
      below ne = less n count h ne
        where
          less : (n count : ℕ) → n < suc count → (n ≡ count → ⊥) → n < count
          less n count h ne = omega arith

      other : (b : Bool) → same_name me (it.name_of n) ≡ b → n < count → (if b then Some count else it.number_of (it.name_of n)) ≡ Some n
      other true e l = absurd (none-some n (sym free ∙ ap it.number_of (name-is me (it.name_of n) e) ∙ named.back n l))
      other false e l = named.back n l

      go : (b : Bool) → (n == count) ≡ b → (if same_name me (if b then me else it.name_of n) then Some count else it.number_of
          (if b then me else it.name_of n)) ≡ Some n
      go true e = ap (λ b. if b then Some count else it.number_of me) (name-self me) ∙ ap Some (sym (eqb-true n count e))
      go false e = other (same_name me (it.name_of n)) refl (below (λ s. clash (n == count) (eq-eqb n count s) e))

  there : (x : Name) (n : ℕ) → (if same_name me x then Some count else it.number_of x) ≡ Some n
      → (n < suc count) × ((if n == count then me else it.name_of n) ≡ x)
  there x n = go (same_name me x) refl
    where
      old : (b : Bool) → (n == count) ≡ b → it.number_of x ≡ Some n → (n < suc count) × ((if b then me else it.name_of n) ≡ x)
      old true e at = absurd (self n (subst (λ c. n < c) (sym (eqb-true n count e)) (named.there x n at).0))
        where
          self : (n : ℕ) → n < n → ⊥
          self n h = omega arith
      old false e at = (more n count (named.there x n at).0, (named.there x n at).1)
        where
          more : (n count : ℕ) → n < count → n < suc count
          more n count h = omega arith

      here : (m : ℕ) → Some count ≡ Some n → same_name me x ≡ true → (n < suc count) × ((if n == count then me else it.name_of n) ≡ x)
      here m e s =
          let is : count ≡ n = some-is count n e in
          (subst (λ c. n < suc c) (sym is) (last n), ap (λ b. if b then me else it.name_of n) (eq-eqb n count (sym is)) ∙ name-is me x s)
        where
          last : (n : ℕ) → n < suc n
          last n = omega arith

      go : (b : Bool) → same_name me x ≡ b → (if b then Some count else it.number_of x) ≡ Some n
          → (n < suc count) × ((if n == count then me else it.name_of n) ≡ x)
      go true s e = here n e s
      go false s e = old (n == count) refl e

-- what has a number keeps it
pub kept-more : (it : Naming) (count : ℕ) (me : Name) → it.number_of me ≡ None → (x : Name) (n : ℕ) → it.number_of x ≡ Some n
    → (with_name it count me).number_of x ≡ Some n
kept-more it count me free x n e = go (same_name me x) refl
  where
    go : (b : Bool) → same_name me x ≡ b → (if b then Some count else it.number_of x) ≡ Some n
    go true f = absurd (none-some n (sym free ∙ ap it.number_of (name-is me x f) ∙ e))
    go false f = e

-- what is seen by names, where a number more has a name
pub named-added :
    {V : Type 0} (count : ℕ) (it : Naming) → AreNamed count it → (me : Name) → (old new : Option ℕ → V) (x : V)
    → new (Some count) ≡ x → ((j : ℕ) → j < count → new (Some j) ≡ old (Some j)) → new None ≡ old None
    → (q : Name) → new ((with_name it count me).number_of q) ≡ (if same_name me q then x else old (it.number_of q))
named-added count it named me old new x here other none q = go (same_name me q) (it.number_of q) refl
  where
    go : (b : Bool) (o : Option ℕ) → it.number_of q ≡ o → new (if b then Some count else o) ≡ (if b then x else old o)
    go true o is = here
    go false None is = none
    go false (Some j) is = other j (named.there q j is).0
