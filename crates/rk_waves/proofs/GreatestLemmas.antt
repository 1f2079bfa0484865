-- The greatest waves after a piece more.
use Rattle.std.proofs.Common.{◌≡◌, ℕ, ◌≤◌, not, arith}
use Rattle.std.specs.Prelude.{max, ◌==◌, if◌then◌else◌}
use Rattle.rk_waves.specs.declared.greatest.Greatest.{Greatest}
use Rattle.rk_waves.specs.Table.{but, with_wave}

pub with-but : (g : Greatest) (o a x : ℕ) → g.next ≤ g.after → but (with_wave g o a) x ≡ max (if not (o == x) then a else 0) (but g x)
with-but g o a x h = grind arith

pub with-ordered : (g : Greatest) (o a : ℕ) → g.next ≤ g.after → (with_wave g o a).next ≤ (with_wave g o a).after
with-ordered g o a h = grind arith
