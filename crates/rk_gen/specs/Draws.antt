-- Numbers that are drawn from a seed, and what is made of them one after another.
use Rattle.std.specs.Prelude.{ℕ, zero, suc, ◌+◌, ◌*◌, ◌/◌, ◌%◌, ◌^◌, List, [], ◌∷◌, ◌++◌}

-- what x becomes at each draw
unfoldable pub next : ℕ → ℕ
next x = (x * 6364136223846793005 + 1442695040888963407) % 2 ^ 64

-- the number below `m` that is drawn where x stood so before
unfoldable pub draw : ℕ → ℕ → ℕ
draw m x = next x / 2 ^ 33 % m

-- what was made, and where x stands afterwards
pub record Drawn (A : Type 0) : Type 0 where
  pub made : A
  pub after : ℕ

-- one more is made after others
abbrev pub with_next : {A : Type 0} → (ℕ → Drawn A) → Drawn (List A) → Drawn (List A)
with_next one before = record { made = before.made ++ (one before.after).made ∷ []; after = (one before.after).after }

-- so many are made one after another, each by its number, from 0 on
unfoldable pub drawn_all : {A : Type 0} → (ℕ → ℕ → Drawn A) → ℕ → ℕ → Drawn (List A)
drawn_all one zero x = record { made = []; after = x }
drawn_all one (suc n) x = with_next (one n) (drawn_all one n x)
