-- Loops that are counted up to a greatest number.
use Rattle.std.proofs.Common.{◌≡◌, ℕ, zero, suc, ◌+◌, ◌-◌, ◌^◌, ◌≤◌, min, ap, ◌∙◌, arith}
use Rattle.sh_means.specs.declared.flow.Flow.TheVariants.{Breaks, Continues}
use Rattle.sh_means.specs.Flows.{break_of, continue_of}
use Rattle.sh_means.specs.Loops.{EachCounts, EachLeaves}

-- with any greatest number but 0

nowhere : (most : ℕ) → min zero most ≡ zero
nowhere most = omega arith

one_less : (most d : ℕ) → 1 ≤ most → min (suc d) most ≡ suc (min d (most - 1))
one_less most d some = omega arith

-- a number of loops that isn't above the greatest
as_many : (most n d : ℕ) → n ≤ most → min (n - 1) (min d (most - 1)) ≡ min (n - 1) d
as_many most n d le = omega arith

breaks_so : (most n d : ℕ) → 1 ≤ most → n ≤ most → break_of n (min d most) ≡ break_of n d
breaks_so most n zero some le = ap (λ (l : ℕ). break_of n l) (nowhere most)
breaks_so most n (suc d) some le = ap (λ (l : ℕ). break_of n l) (one_less most d some) ∙ ap (λ (m : ℕ). Breaks m) (as_many most n d le)

continues_so : (most n d : ℕ) → 1 ≤ most → n ≤ most → continue_of n (min d most) ≡ continue_of n d
continues_so most n zero some le = ap (λ (l : ℕ). continue_of n l) (nowhere most)
continues_so most n (suc d) some le = ap (λ (l : ℕ). continue_of n l) (one_less most d some) ∙ ap (λ (m : ℕ). Continues m) (as_many most n d le)

pub each_counts : EachCounts
each_counts pl d h = let e : min (pl.loops + 1) (2 ^ 64 - 1) ≡ min (d + 1) (2 ^ 64 - 1) = omega arith in e

pub each_leaves : EachLeaves
each_leaves pl d n h lt =
    let some : 1 ≤ 2 ^ 64 - 1 = omega arith in
    let le : n ≤ 2 ^ 64 - 1 = omega arith in (
      ap (λ (l : ℕ). break_of n l) h ∙ breaks_so (2 ^ 64 - 1) n d some le,
      ap (λ (l : ℕ). continue_of n l) h ∙ continues_so (2 ^ 64 - 1) n d some le,
    )
