-- How many turns are taken, and how many bytes they take.
use Rattle.std.proofs.Common.{◌≡◌, ℕ, zero, suc, ◌+◌, ◌-◌, ◌*◌, ◌≤◌, inl, inr, refl, arith, subst}
use Rattle.std.proofs.lemmas.Bool.{cases_lt}
use Rattle.ut_bre.specs.declared.tree.Times.{Times}
use Rattle.ut_bre.specs.Matching.{Turns, IsWithin, Repeated}
use Rattle.ut_bre.proofs.Standing.{Rel}
use Rattle.ut_bre.proofs.Turning.{Ordered}

-- turns and more turns

pub turns-join : (R : Rel) (n m s i k j : ℕ) → n + m ≡ s → Turns R n i k → Turns R m k j → Turns R s i j
turns-join R n zero s i k j e t u = let z : n ≡ s = omega arith in subst (λ x. Turns R x i j) z (subst (Turns R n i) u t)
turns-join R n (suc m) zero i k j e t u = absurd (omega arith)
turns-join R n (suc m) (suc s) i k j e t (d, u, r) = let z : n + m ≡ s = omega arith in (d, turns-join R n m s i k d z t u, r)

pub turns-split : (R : Rel) (n m s i j : ℕ) → n + m ≡ s → Turns R s i j → (k : ℕ) × Turns R n i k × Turns R m k j
turns-split R n zero s i j e t = let z : s ≡ n = omega arith in (j, subst (λ x. Turns R x i j) z t, refl)
turns-split R n (suc m) zero i j e t = absurd (omega arith)
turns-split R n (suc m) (suc s) i j e (d, t, r) =
    let z : n + m ≡ s = omega arith in
    let f = turns-split R n m s i d z t in
    (f.0, f.1, (d, f.2, r))

-- how many turns may be taken in all

pub record IsCount (times : Times) (n : ℕ) : Type 0 where
  pub least : times.least ≤ n
  pub most : IsWithin times.beyond (n - times.least)

pub count-of : (R : Rel) (times : Times) (i j : ℕ) → Repeated R times i j → (n : ℕ) × IsCount times n × Turns R n i j
count-of R times i j (k, t, (n, w, u)) =
    let z : n ≡ times.least + n - times.least = omega arith in
    (times.least + n, record { least = (let h : times.least ≤ times.least + n = omega arith in h); most = subst (IsWithin times.beyond) z w }, turns-join R times.least n (times.least + n) i k j refl t u)

pub repeated-of : (R : Rel) (times : Times) (n i j : ℕ) → IsCount times n → Turns R n i j → Repeated R times i j
repeated-of R times n i j c t =
    let low : times.least ≤ n = c.least in
    let z : times.least + (n - times.least) ≡ n = omega arith in
    let f = turns-split R times.least (n - times.least) n i j z t in
    (f.0, f.1, (n - times.least, c.most, f.2))

-- the bytes of turns

abbrev pub Takes : Rel → ℕ → Type 0
Takes R size = (i j : ℕ) → R i j → i + size ≤ j

pub turns-take : (R : Rel) (size : ℕ) → Takes R size → (n i j : ℕ) → Turns R n i j → i + n * size ≤ j
turns-take R size takes zero i j t = omega arith
turns-take R size takes (suc n) i j (k, t, r) =
    let a : i + n * size ≤ k = turns-take R size takes n i k t in
    let b : k + size ≤ j = takes k j r in
    omega arith

-- of some turns those that take a byte, which are no more than the bytes
pub taking : (R : Rel) → Ordered R → (n i j : ℕ) → Turns R n i j → (m : ℕ) × (m ≤ n) × (i + m ≤ j) × Turns R m i j
taking R ordered zero i j t = let low : 0 ≤ 0 = omega arith in let short : i + 0 ≤ j = omega arith in (0, low, short, t)
taking R ordered (suc n) i j (k, t, r) =
    let f = taking R ordered n i k t in
    let m : ℕ = f.0 in
    let few : m ≤ n = f.1 in
    let short : i + m ≤ k = f.2 in
    let order : k ≤ j = ordered k j r in
    elim (cases_lt k j) as (λ w. (m : ℕ) × (m ≤ suc n) × (i + m ≤ j) × Turns R m i j) [
      | inl lt ↦ (let a : suc m ≤ suc n = omega arith in let b : i + suc m ≤ j = omega arith in (suc m, a, b, (k, f.3, r)))
      | inr ge ↦ (let e : k ≡ j = omega arith in let a : m ≤ suc n = omega arith in let b : i + m ≤ j = omega arith in (m, a, b, subst (Turns R m i) e f.3))
    ]

-- turns that take nothing

abbrev pub IsIdle : Rel → Type 0
IsIdle R = (i : ℕ) → R i i

pub idle-turns : (R : Rel) → IsIdle R → (n i : ℕ) → Turns R n i i
idle-turns R idle zero i = refl
idle-turns R idle (suc n) i = (i, idle-turns R idle n i, idle i)

pub padded : (R : Rel) → IsIdle R → (n m i j : ℕ) → n ≤ m → Turns R n i j → Turns R m i j
padded R idle n m i j h t = let z : n + (m - n) ≡ m = omega arith in turns-join R n (m - n) m i j j z t (idle-turns R idle (m - n) j)
