-- So many turns of so many turns.
use Rattle.std.proofs.Common.{◌≡◌, ℕ, zero, suc, ◌+◌, ◌-◌, ◌*◌, ◌<◌, ◌≤◌, ◌⊎◌, inl, inr, Bool, true, false, refl, sym, ap, arith, subst}
use Rattle.std.specs.Prelude.{Option, Some, None, nat_lt, nat_le, ◌==◌, ◌||◌, ◌&&◌}
use Rattle.std.proofs.lemmas.Bool.{cases_lt, leb-true, eqb-true, eqb-false, eq-eqb}
use Rattle.std.proofs.Math.Nat.{mul-le-mul_left}
use Rattle.ut_bre.specs.declared.tree.Times.{Times}
use Rattle.ut_bre.specs.Times.{is_zero}
use Rattle.ut_bre.specs.Matching.{Turns, IsWithin, Repeated}
use Rattle.ut_bre.specs.Fitting.{and_more, reaches, most_joined, IsJoined}
use Rattle.ut_bre.proofs.Standing.{Rel}
use Rattle.ut_bre.proofs.Counted.{count-of, repeated-of, turns-join, turns-split}

-- no more turns than so many times the most of one
abbrev IsTop : ℕ → Option ℕ → ℕ → ℕ → Type 0
IsTop least None k n = k ≡ 0 → n ≡ 0
IsTop least (Some more) k n = n ≤ k * (least + more)

top-more : (least : ℕ) (most : Option ℕ) (k n p : ℕ) → least ≤ p → IsWithin most (p - least) → IsTop least most k n → IsTop least most (suc k) (n + p)
top-more least None k n p h w t = λ e. absurd (omega arith)
top-more least (Some more) k n p h w t =
    let a : n ≤ k * (least + more) = t in
    let b : p - least ≤ more = w in
    let c : n + p ≤ suc k * (least + more) = omega arith in
    c

-- many turns are one run of turns
gathered : (R : Rel) (own : Times) (k i j : ℕ) → Turns (Repeated R own) k i j → (n : ℕ) × (k * own.least ≤ n) × IsTop own.least own.beyond k n × Turns R n i j
gathered R own zero i j t = let a : 0 * own.least ≤ 0 = omega arith in (0, a, top-none own.beyond, t)
  where
    top-none : (most : Option ℕ) → IsTop own.least most 0 0
    top-none None = λ e. refl
    top-none (Some more) = let a : 0 ≤ 0 * (own.least + more) = omega arith in a
gathered R own (suc k) i j (m, t, r) =
    let f = gathered R own k i m t in
    let g = count-of R own m j r in
    let low : k * own.least ≤ f.0 = f.1 in
    let one : own.least ≤ g.0 = g.1.least in
    let a : suc k * own.least ≤ f.0 + g.0 = omega arith in
    (f.0 + g.0, a, top-more own.least own.beyond k f.0 g.0 one g.1.most f.2, turns-join R f.0 g.0 (f.0 + g.0) i m j refl f.3 g.2)

-- how many turns are taken last of a run that is many turns
last-of : (least : ℕ) (most : Option ℕ) (k n : ℕ) → suc k * least ≤ n → IsTop least most (suc k) n → (p m : ℕ) × (m + p ≡ n) × (least ≤ p) × IsWithin most (p - least) × (k * least ≤ m) × IsTop least most k m
last-of least None k n h t =
    let z : k * least + (n - k * least) ≡ n = omega arith in
    let a : least ≤ n - k * least = omega arith in
    let b : k * least ≤ k * least = omega arith in
    (n - k * least, k * least, z, a, tt, b, λ e. (let q : k * least ≡ 0 * least = ap (λ x. x * least) e in omega arith))
last-of least (Some more) k n h t =
    let top : n ≤ suc k * (least + more) = t in
    elim (cases_lt (least + more) (n - k * least)) as (λ w. (p m : ℕ) × (m + p ≡ n) × (least ≤ p) × IsWithin (Some more) (p - least) × (k * least ≤ m) × IsTop least (Some more) k m) [
      | inl lt ↦ (
          let z : (n - (least + more)) + (least + more) ≡ n = omega arith in
          let a : least ≤ least + more = omega arith in
          let b : least + more - least ≤ more = omega arith in
          let c : k * least ≤ n - (least + more) = omega arith in
          let d : n - (least + more) ≤ k * (least + more) = omega arith in
          (least + more, n - (least + more), z, a, b, c, d)
          )
      | inr ge ↦ (
          let z : k * least + (n - k * least) ≡ n = omega arith in
          let a : least ≤ n - k * least = omega arith in
          let b : n - k * least - least ≤ more = omega arith in
          let c : k * least ≤ k * least = omega arith in
          let d : k * least ≤ k * (least + more) = omega arith in
          (n - k * least, k * least, z, a, b, c, d)
          )
    ]

spread : (R : Rel) (own : Times) (k n i j : ℕ) → k * own.least ≤ n → IsTop own.least own.beyond k n → Turns R n i j → Turns (Repeated R own) k i j
spread R own zero n i j h t r = let z : n ≡ 0 = none own.beyond t in subst (λ x. Turns R x i j) z r
  where
    none : (most : Option ℕ) → IsTop own.least most 0 n → n ≡ 0
    none None f = f refl
    none (Some more) f = omega arith
spread R own (suc k) n i j h t r =
    let f = last-of own.least own.beyond k n h t in
    let g = turns-split R f.1 f.0 n i j f.2 r in
    (g.0, spread R own k f.1 i g.0 f.5 f.6 g.1, repeated-of R own f.0 g.0 j (record { least = f.3; most = f.4 }) g.2)

-- Where there is no gap, each count is reached by some turns.

search : (least more : ℕ) (e k n : ℕ) → k * least ≤ n → least ≤ k * more + 1 → n ≤ (k + e) * (least + more) → (q : ℕ) × (k ≤ q) × (q ≤ k + e) × (q * least ≤ n) × (n ≤ q * (least + more))
search least more zero k n h g t =
    let a : k ≤ k = omega arith in
    let b : k ≤ k + 0 = omega arith in
    let z : k + 0 ≡ k = omega arith in
    (k, a, b, h, subst (λ x. n ≤ x * (least + more)) z t)
search least more (suc e) k n h g t =
    elim (cases_lt (k * (least + more)) n) as (λ w. (q : ℕ) × (k ≤ q) × (q ≤ k + suc e) × (q * least ≤ n) × (n ≤ q * (least + more))) [
      | inl lt ↦ (
          let a : suc k * least ≤ n = omega arith in
          let b : least ≤ suc k * more + 1 = omega arith in
          let z : k + suc e ≡ suc k + e = omega arith in
          let f = search least more e (suc k) n a b (subst (λ x. n ≤ x * (least + more)) z t) in
          let low : suc k ≤ f.0 = f.1 in
          let high : f.0 ≤ suc k + e = f.2 in
          let c : k ≤ f.0 = omega arith in
          let d : f.0 ≤ k + suc e = omega arith in
          (f.0, c, d, f.3, f.4)
          )
      | inr ge ↦ (
          let a : k ≤ k = omega arith in
          let b : k ≤ k + suc e = omega arith in
          let c : n ≤ k * (least + more) = omega arith in
          (k, a, b, h, c)
          )
    ]

within-none : (most : Option ℕ) (n : ℕ) → n ≡ 0 → IsWithin most n
within-none None n e = tt
within-none (Some more) n e = let h : n ≤ more = omega arith in h

or-second : (x y : Bool) → x ≡ false → (x || y) ≡ true → y ≡ true
or-second true y e h = absurd (cc)
or-second false y e h = h

or-by : (x y : Bool) → (x || y) ≡ true → (x ≡ true) ⊎ (y ≡ true)
or-by true y h = inl refl
or-by false y h = inr h

both : (x y : Bool) → x ≡ true → y ≡ true → (x && y) ≡ false → ⊥
both true y e f h = absurd (cc)
both false y e f h = absurd (cc)

-- some turns take one at the least
some-turn : (least more : ℕ) → (is_zero (Some more) && (least == 0)) ≡ false → 1 ≤ least + more
some-turn least more h =
    elim (cases_lt 0 (least + more)) as (λ w. 1 ≤ least + more) [
      | inl lt ↦ omega arith
      | inr ge ↦ (
          let a : least ≡ 0 = omega arith in
          let b : more ≡ 0 = omega arith in
          absurd (both (more == 0) (least == 0) (eq-eqb more 0 b) (eq-eqb least 0 a) h)
          )
    ]

-- a number of turns that are this one run of turns
abbrev Splits : ℕ → Option ℕ → ℕ → Option ℕ → ℕ → Type 0
Splits a own c turns n = (k : ℕ) × (c ≤ k) × IsWithin turns (k - c) × (k * a ≤ n) × IsTop a own k n

split_exact : (a : ℕ) (own : Option ℕ) (c more n : ℕ) → more ≡ 0 → (is_zero (Some more) && (c == 0)) ≡ false → c * a ≤ n → IsWithin (most_joined (and_more a own) (Some (c + more)) (c * a)) (n - c * a) → Splits a own c (Some more) n
split_exact a None c more n z some h w =
    let p : c ≤ c = omega arith in
    let q : c - c ≤ more = omega arith in
    let s : 1 ≤ c + more = some-turn c more some in
    (c, p, q, h, λ e. absurd (omega arith))
split_exact a (Some b) c more n z some h w =
    let p : c ≤ c = omega arith in
    let q : c - c ≤ more = omega arith in
    let s : c + more ≡ c = omega arith in
    let top : n - c * a ≤ c * (a + b) - c * a = subst (λ x. n - c * a ≤ x * (a + b) - c * a) s w in
    let r : n ≤ c * (a + b) = omega arith in
    (c, p, q, h, r)

split_any : (a c : ℕ) (turns : Option ℕ) (n : ℕ) → is_zero turns ≡ false → (nat_lt 0 c || nat_le a 1) ≡ true → c * a ≤ n → Splits a None c turns n
split_any a c turns n some gap h =
    elim (cases_lt 0 c) as (λ w. Splits a None c turns n) [
      | inl lt ↦ (let p : c ≤ c = omega arith in let z : c - c ≡ 0 = omega arith in (c, p, within-none turns (c - c) z, h, λ e. absurd (omega arith)))
      | inr ge ↦ (let z : c ≡ 0 = omega arith in none z (or-by (nat_lt 0 c) (nat_le a 1) gap) (cases_lt 0 n))
    ]
  where
    one-more : (turns : Option ℕ) → is_zero turns ≡ false → IsWithin turns (1 - c)
    one-more None e = tt
    one-more (Some more) e = (let g : more ≡ 0 → ⊥ = eqb-false more 0 e in let q : 1 - c ≤ more = omega arith in q)

    none : c ≡ 0 → (nat_lt 0 c ≡ true) ⊎ (nat_le a 1 ≡ true) → (0 < n) ⊎ (n ≤ 0) → Splits a None c turns n
    none z (inl e) m = (let g : 1 ≤ c = leb-true 1 c e in absurd (omega arith))
    none z (inr e) (inl lt) = (let g : a ≤ 1 = leb-true a 1 e in let p : c ≤ 1 = omega arith in let q : 1 * a ≤ n = omega arith in (1, p, one-more turns some, q, λ e. absurd (omega arith)))
    none z (inr e) (inr ge) = (let p : c ≤ 0 = omega arith in let y : 0 - c ≡ 0 = omega arith in let q : 0 * a ≤ n = omega arith in (0, p, within-none turns (0 - c) y, q, λ e. (let g : n ≡ 0 = omega arith in g)))

split_more : (a b c : ℕ) (turns : Option ℕ) (n : ℕ) → (is_zero (Some b) && (a == 0)) ≡ false → nat_le a (c * b + 1) ≡ true → c * a ≤ n → IsWithin (most_joined (Some (a + b)) (and_more c turns) (c * a)) (n - c * a) → Splits a (Some b) c turns n
split_more a b c None n some gap h w =
    let one : 1 ≤ a + b = some-turn a b some in
    let g : a ≤ c * b + 1 = leb-true a (c * b + 1) gap in
    let big : n * 1 ≤ n * (a + b) = mul-le-mul_left n one in
    let top : n ≤ (c + n) * (a + b) = omega arith in
    let f = search a b n c n h g top in
    (f.0, f.1, tt, f.3, f.4)
split_more a b c (Some more) n some gap h w =
    let g : a ≤ c * b + 1 = leb-true a (c * b + 1) gap in
    let within : n - c * a ≤ (c + more) * (a + b) - c * a = w in
    let top : n ≤ (c + more) * (a + b) = omega arith in
    let f = search a b more c n h g top in
    let low : c ≤ f.0 = f.1 in
    let high : f.0 ≤ c + more = f.2 in
    let q : f.0 - c ≤ more = omega arith in
    (f.0, f.1, q, f.3, f.4)

split_gapless : (a : ℕ) (own : Option ℕ) (c : ℕ) (turns : Option ℕ) (n : ℕ) → is_zero turns ≡ false → (is_zero own && (a == 0)) ≡ false → reaches c a own ≡ true → c * a ≤ n → IsWithin (most_joined (and_more a own) (and_more c turns) (c * a)) (n - c * a) → Splits a own c turns n
split_gapless a None c turns n more some gap h w = split_any a c turns n more gap h
split_gapless a (Some b) c turns n more some gap h w = split_more a b c turns n some gap h w

splits : (a : ℕ) (own : Option ℕ) (c : ℕ) (turns : Option ℕ) (n : ℕ) → (is_zero own && (a == 0)) ≡ false → (is_zero turns && (c == 0)) ≡ false → (is_zero turns || reaches c a own) ≡ true → c * a ≤ n → IsWithin (most_joined (and_more a own) (and_more c turns) (c * a)) (n - c * a) → Splits a own c turns n
splits a own c None n some some' gap h w = split_gapless a own c None n refl some gap h w
splits a own c (Some more) n some some' gap h w = by (more == 0) refl
  where
    by : (b : Bool) → (more == 0) ≡ b → Splits a own c (Some more) n
    by true e = split_exact a own c more n (eqb-true more 0 e) some' h w
    by false e = split_gapless a own c (Some more) n e some (or-second (more == 0) (reaches c a own) e gap) h w

within-joined : (a : ℕ) (own : Option ℕ) (c : ℕ) (turns : Option ℕ) (k n : ℕ) → c ≤ k → IsWithin turns (k - c) → IsTop a own k n → IsWithin (most_joined (and_more a own) (and_more c turns) (c * a)) (n - c * a)
within-joined a None c turns k n h w t = tt
within-joined a (Some b) c None k n h w t = tt
within-joined a (Some b) c (Some more) k n h w t =
    let high : k ≤ c + more = omega arith in
    let mul : (a + b) * k ≤ (a + b) * (c + more) = mul-le-mul_left (a + b) high in
    let top : n ≤ k * (a + b) = t in
    let q : n - c * a ≤ (c + more) * (a + b) - c * a = omega arith in
    q

pub joined-to : (R : Rel) (own turns times : Times) → IsJoined own turns times → (i j : ℕ) → Repeated (Repeated R own) turns i j → Repeated R times i j
joined-to R own turns times it i j r =
    let c = count-of (Repeated R own) turns i j r in
    let g = gathered R own c.0 i j c.2 in
    let low : turns.least ≤ c.0 = c.1.least in
    let mul : own.least * turns.least ≤ own.least * c.0 = mul-le-mul_left own.least low in
    let bytes : c.0 * own.least ≤ g.0 = g.1 in
    let e : times.least ≡ turns.least * own.least = it.least in
    let a : times.least ≤ g.0 = omega arith in
    let w = within-joined own.least own.beyond turns.least turns.beyond c.0 g.0 low c.1.most g.2 in
    let w' = subst (λ x. IsWithin x (g.0 - turns.least * own.least)) (sym it.beyond) w in
    repeated-of R times g.0 i j (record { least = a; most = subst (λ x. IsWithin times.beyond (g.0 - x)) (sym e) w' }) g.3

pub joined-from : (R : Rel) (own turns times : Times) → IsJoined own turns times → (i j : ℕ) → Repeated R times i j → Repeated (Repeated R own) turns i j
joined-from R own turns times it i j r =
    let c = count-of R times i j r in
    let low : times.least ≤ c.0 = c.1.least in
    let e : times.least ≡ turns.least * own.least = it.least in
    let h : turns.least * own.least ≤ c.0 = omega arith in
    let w = subst (λ x. IsWithin times.beyond (c.0 - x)) e c.1.most in
    let w' = subst (λ x. IsWithin x (c.0 - turns.least * own.least)) it.beyond w in
    let s = splits own.least own.beyond turns.least turns.beyond c.0 it.some it.some_turns it.no_gap h w' in
    repeated-of (Repeated R own) turns s.0 i j (record { least = s.1; most = s.2 }) (spread R own s.0 c.0 i j s.3 s.4 c.2)
