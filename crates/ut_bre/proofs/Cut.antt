-- So many turns in so many bytes.
use Rattle.std.proofs.Common.{◌≡◌, ℕ, zero, suc, ◌+◌, ◌-◌, ◌*◌, ◌<◌, ◌≤◌, inl, inr, Bool, true, false, refl, arith, subst}
use Rattle.std.specs.Prelude.{Option, Some, None, nat_lt, ◌==◌, ◌↔◌, if◌then◌else◌}
use Rattle.std.proofs.lemmas.Bool.{cases_lt, leb-true, leb-false, eqb-true, eqb-false}
use Rattle.std.proofs.Math.Nat.{mul-le-mul_left}
use Rattle.ut_bre.specs.declared.tree.Times.{Times}
use Rattle.ut_bre.specs.Matching.{Turns, IsWithin, Repeated}
use Rattle.ut_bre.specs.Fitting.{AreAlike, and_more, limit, cut_sized, cut}
use Rattle.ut_bre.proofs.Standing.{Rel}
use Rattle.ut_bre.proofs.Turning.{Ordered}
use Rattle.ut_bre.proofs.NeededLemmas.{turns-ordered}
use Rattle.ut_bre.proofs.Counted.{Takes, IsIdle, IsCount, turns-take, count-of, repeated-of, taking, padded}

-- no fewer turns than there is room for
limited-to : (size room : ℕ) (most : Option ℕ) (n : ℕ) → IsWithin most n → IsWithin (limit size room most) n
limited-to size room None n w = tt
limited-to size room (Some more) n w = by (nat_lt (more * size) room) refl
  where
    by : (b : Bool) → nat_lt (more * size) room ≡ b → IsWithin (if b then Some more else None) n
    by true e = w
    by false e = tt

limited-from : (size room : ℕ) (most : Option ℕ) (n : ℕ) → 1 ≤ size → n * size ≤ room → IsWithin (limit size room most) n → IsWithin most n
limited-from size room None n h g w = tt
limited-from size room (Some more) n h g w = by (nat_lt (more * size) room) refl w
  where
    by : (b : Bool) → nat_lt (more * size) room ≡ b → IsWithin (if b then Some more else None) n → n ≤ more
    by true e v = v
    by false e v =
        let enough : room < suc (more * size) = leb-false (suc (more * size)) room e in
        elim (cases_lt more n) as (λ w. n ≤ more) [
          | inl lt ↦ (let k : suc more * size ≤ n * size = omega (arith, mul-le-mul_left size lt) in absurd (omega arith))
          | inr ge ↦ omega arith
        ]

-- turns each of which may be empty

abbrev idle_cut : ℕ → Times → Times
idle_cut room times = record { least = 0; beyond = limit 1 room (and_more times.least times.beyond) }

all-within : (least : ℕ) (most : Option ℕ) (n m : ℕ) → m ≤ n → least ≤ n → IsWithin most (n - least) → IsWithin (and_more least most) m
all-within least None n m h g w = tt
all-within least (Some more) n m h g w = let k : m ≤ least + more = omega arith in k

idle-to : (R : Rel) (room : ℕ) (times : Times) (i j : ℕ) → Ordered R → Repeated R times i j → Repeated R (idle_cut room times) i j
idle-to R room times i j ordered r =
    let c = count-of R times i j r in
    let f = taking R ordered c.0 i j c.2 in
    let low : 0 ≤ f.0 = omega arith in
    let z : f.0 ≡ f.0 - 0 = omega arith in
    let w = limited-to 1 room (and_more times.least times.beyond) f.0 (all-within times.least times.beyond c.0 f.0 f.1 c.1.least c.1.most) in
    repeated-of R (idle_cut room times) f.0 i j (record { least = low; most = subst (IsWithin (limit 1 room (and_more times.least times.beyond))) z w }) f.3

-- as many as are needed at the least
count-within : (least : ℕ) (most : Option ℕ) (m : ℕ) → IsWithin (and_more least most) m → (n : ℕ) × (m ≤ n) × IsCount (record { least = least; beyond = most }) n
count-within least None m w =
    let a : m ≤ least + m = omega arith in
    let b : least ≤ least + m = omega arith in
    (least + m, a, record { least = b; most = tt })
count-within least (Some more) m w =
    let a : m ≤ least + more = w in
    let b : least ≤ least + more = omega arith in
    let c : least + more - least ≤ more = omega arith in
    (least + more, a, record { least = b; most = c })

idle-from : (R : Rel) (room : ℕ) (times : Times) (i j : ℕ) → Ordered R → IsIdle R → j ≤ i + room → Repeated R (idle_cut room times) i j → Repeated R times i j
idle-from R room times i j ordered idle h r =
    let c = count-of R (idle_cut room times) i j r in
    let f = taking R ordered c.0 i j c.2 in
    let m : ℕ = f.0 in
    let few : m ≤ c.0 = f.1 in
    let short : i + m ≤ j = f.2 in
    let fits : m * 1 ≤ room = omega arith in
    let w : IsWithin (limit 1 room (and_more times.least times.beyond)) m = fewer (limit 1 room (and_more times.least times.beyond)) c.0 m few c.1.most in
    let n = count-within times.least times.beyond m (limited-from 1 room (and_more times.least times.beyond) m (omega arith) fits w) in
    repeated-of R times n.0 i j n.2 (padded R idle m n.0 i j n.1 f.3)
  where
    fewer : (most : Option ℕ) (n m : ℕ) → m ≤ n → IsWithin most (n - 0) → IsWithin most m
    fewer None n m h w = tt
    fewer (Some more) n m h w = let k : m ≤ more = omega arith in k

-- turns that take bytes

none-beyond : (R : Rel) (least : ℕ) (most : Option ℕ) (i j : ℕ) → Repeated R (record { least = least; beyond = Some 0 }) i j → Repeated R (record { least = least; beyond = most }) i j
none-beyond R least None i j (k, t, (n, w, u)) = (k, t, (n, tt, u))
none-beyond R least (Some more) i j (k, t, (n, w, u)) = let h : n ≤ more = omega arith in (k, t, (n, h, u))

-- where there is no room for one
too-short : (R : Rel) (size room : ℕ) (times : Times) (i j : ℕ) → Takes R size → room < size → j ≤ i + room → Repeated R times i j → Repeated R (record { least = times.least; beyond = Some 0 }) i j
too-short R size room times i j takes h g r =
    let c = count-of R times i j r in
    let low : times.least ≤ c.0 = c.1.least in
    let bytes : i + c.0 * size ≤ j = turns-take R size takes c.0 i j c.2 in
    none (c.0) refl bytes low c.2
  where
    none : (n : ℕ) → n ≡ n → i + n * size ≤ j → times.least ≤ n → Turns R n i j → Repeated R (record { least = times.least; beyond = Some 0 }) i j
    none zero e b l t =
        let k : 0 - times.least ≤ 0 = omega arith in
        repeated-of R (record { least = times.least; beyond = Some 0 }) 0 i j (record { least = l; most = k }) t
    none (suc n) e b l t = absurd (omega arith)

sized-to : (R : Rel) (size room : ℕ) (times : Times) (i j : ℕ) → Repeated R times i j → Repeated R (record { least = times.least; beyond = limit size room times.beyond }) i j
sized-to R size room times i j (k, t, (n, w, u)) = (k, t, (n, limited-to size room times.beyond n w, u))

sized-from : (R : Rel) (size room : ℕ) (times : Times) (i j : ℕ) → Ordered R → Takes R size → 1 ≤ size → j ≤ i + room → Repeated R (record { least = times.least; beyond = limit size room times.beyond }) i j → Repeated R times i j
sized-from R size room times i j ordered takes h g (k, t, (n, w, u)) =
    let a : i ≤ k = turns-ordered R ordered times.least i k t in
    let b : k + n * size ≤ j = turns-take R size takes n k j u in
    let fits : n * size ≤ room = omega arith in
    (k, t, (n, limited-from size room times.beyond n h fits w, u))

pub cut-alike : (R : Rel) (size room : ℕ) (times : Times) → Ordered R → Takes R size → (size ≡ 0 → IsIdle R) → AreAlike room (Repeated R times) (Repeated R (cut size room times))
cut-alike R size room times ordered takes idle i j h = by (size == 0) refl
  where
    fits : (b : Bool) → nat_lt room size ≡ b → 1 ≤ size → Repeated R times i j ↔ Repeated R (if b then record { least = times.least; beyond = Some 0 } else record { least = times.least; beyond = limit size room times.beyond }) i j
    fits true e g = (too-short R size room times i j takes (leb-true (suc room) size e) h, none-beyond R times.least times.beyond i j)
    fits false e g = (sized-to R size room times i j, sized-from R size room times i j ordered takes g h)

    by : (b : Bool) → (size == 0) ≡ b → Repeated R times i j ↔ Repeated R (if b then record { least = 0; beyond = limit 1 room (and_more times.least times.beyond) } else cut_sized size room times) i j
    by true e = (idle-to R room times i j ordered, idle-from R room times i j ordered (idle (eqb-true size 0 e)) h)
    by false e = (let g : size ≡ 0 → ⊥ = eqb-false size 0 e in fits (nat_lt room size) refl (omega arith))
