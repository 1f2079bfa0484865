-- What the kernel gives is what a program says.
use Rattle.std.specs.Prelude.{◌≡◌, Option, Some, None, ℕ}
use Rattle.rk_calls.specs.declared.answer.Answer.{Answer}
use Rattle.rk_calls.specs.Given.{Given}
use Rattle.rk_kernel.specs.World as kernel
use Rattle.rk_waves.specs.Programs.{One, end_of, written}
use Rattle.rk_feet.specs.Named.{Name, Plain, Writes, Does}
use Rattle.rk_feet.specs.World.{World, at}
use Rattle.rk_feet.specs.CellLemmas.{cells}

-- in a world that comes after another one, what has a number keeps it
pub record Lasts (w after : World) : Type 0 where
  pub nodes : (x : Name) (n : ℕ) → w.nodes.number_of x ≡ Some n → after.nodes.number_of x ≡ Some n
  pub opens : (x : Name) (n : ℕ) → w.opens.number_of x ≡ Some n → after.opens.number_of x ≡ Some n
  pub pipes : (x : Name) (n : ℕ) → w.pipes.number_of x ≡ Some n → after.pipes.number_of x ≡ Some n

-- the kernel's world has names for all that is new, and its cells hold what is written
pub record Becomes (w : World) (held : kernel.World) (writes : Writes) : Type 0 where
  pub next : World
  pub is : next.held ≡ held
  pub holds : (p : Plain) → at next (One p) ≡ written cells writes p (at w (One p))
  pub lasts : Lasts w next

pub record Simulates (w : World) (given : Given kernel.World) (end : Answer × Writes) : Type 0 where
  pub answer : given.answer ≡ end.0
  pub after : Becomes w given.world end.1

-- a program in a world
abbrev pub ends_in : World → Does → Answer × Writes
ends_in w x = end_of (at w) x

-- the number of a description, by the name that the trace gives
abbrev pub number_on : World → Option Name → Option ℕ
number_on w None = None
number_on w (Some k) = w.opens.number_of k
