-- The kernel as a world whose steps are programs.
use Rattle.std.specs.Prelude.{◌≡◌, ℕ, List, [], ◌∷◌, if◌then◌else◌, Option, None}
use Rattle.rk_calls.specs.Given.{Given}
use Rattle.rk_calls.specs.Refs.{RefsHeld}
use Rattle.rk_calls.specs.declared.answer.Answer.{Answer}
use Rattle.rk_calls.specs.declared.answer.Answer.TheVariants as answer
use Rattle.rk_calls.specs.declared.call.Call.TheVariants as call
use Rattle.rk_kernel.specs.World as kernel
use Rattle.rk_kernel.specs.Do.{answered}
use Rattle.rk_kernel.specs.Rows.{giving}
use Rattle.rk_waves.specs.System.{IsLawful}
use Rattle.rk_waves.specs.Goes.{Told, Goes, left_by}
use Rattle.rk_waves.specs.Programs.{Cell, Programmed, by_cells}
use Rattle.rk_waves.specs.Waves.{AreLeast, ConflictByMore, InWaves, InWavesApart}
use Rattle.rk_feet.specs.Named.{Name, Plain, Value}
use Rattle.rk_feet.specs.Simulates.{Lasts, number_on}
use Rattle.rk_feet.specs.Steps.{Ask, Open, Read, ReadLine, Write, Stat, List as ListOf, ReadLink, Walk, Same, Mkdir, Rmdir, Unlink, Rename, Symlink, Link}
use Rattle.rk_feet.specs.Steps.{Chmod, Pipe, Launch, Step, program}
use Rattle.rk_feet.specs.Snapshots.{IsSeenAs}
use Rattle.rk_feet.specs.Told.{GetsNumbers, Later}
use Rattle.rk_feet.specs.World.{World, at}
use Rattle.rk_feet.specs.CellLemmas.{cells}

-- descriptors of which the first is this description
abbrev pub refs_on : Option ℕ → RefsHeld
refs_on o = record { passed = o ∷ []; opened = [] }

-- what makes something is answered once
abbrev pub once_given : World → ℕ → ℕ → Given kernel.World → Given kernel.World
once_given w r s given = if w.used r s then giving w.held (refs_on None) answer.Go else given

-- what the kernel gives to a step
abbrev pub given_to : World → ℕ → ℕ → Ask → Given kernel.World
given_to w r s (Open path h) = once_given w r s (answered w.held (refs_on None) (call.Open path h))
given_to w r s (Read on) = answered w.held (refs_on (number_on w on)) (call.Read 0)
given_to w r s (ReadLine on) = answered w.held (refs_on (number_on w on)) (call.ReadLine 0)
given_to w r s (Write on text) = answered w.held (refs_on (number_on w on)) (call.Write 0 text)
given_to w r s (Stat path follow) = answered w.held (refs_on None) (call.Stat path follow)
given_to w r s (ListOf path) = answered w.held (refs_on None) (call.List path)
given_to w r s (ReadLink path) = answered w.held (refs_on None) (call.ReadLink path)
given_to w r s (Walk path) = answered w.held (refs_on None) (call.Walk path)
given_to w r s (Same a b) = answered w.held (refs_on None) (call.Same a b)
given_to w r s (Mkdir path mode) = once_given w r s (answered w.held (refs_on None) (call.Mkdir path mode))
given_to w r s (Rmdir path) = answered w.held (refs_on None) (call.Rmdir path)
given_to w r s (Unlink path) = answered w.held (refs_on None) (call.Unlink path)
given_to w r s (Rename a b) = answered w.held (refs_on None) (call.Rename a b)
given_to w r s (Symlink text path) = once_given w r s (answered w.held (refs_on None) (call.Symlink text path))
given_to w r s (Link a b) = answered w.held (refs_on None) (call.Link a b)
given_to w r s (Chmod path mode) = answered w.held (refs_on None) (call.Chmod path mode)
given_to w r s Pipe = once_given w r s (answered w.held (refs_on None) call.Pipe)
given_to w r s (Launch told) = giving w.held (refs_on None) told

-- a step, and a world that comes after it
abbrev pub after_step : (s : Step) (w after : World) → Lasts w after → Later w
after_step s w after lasts = record { command = s.command; number = s.number; world = after; lasts = lasts }

-- a world whose steps are these programs over these cells, and that is the kernel; in waves without conflict every order gives its answers
pub record PlaysKernel : Type 0 where
  pub it : Programmed World Step Plain Name Value Answer
  pub names : it.cells ≡ cells
  pub sees : (w : World) (c : Cell Plain Name) → it.at w c ≡ at w c
  pub says : (s : Step) → it.program s ≡ program s
  pub answers : (s : Step) (w : World) → it.answer s w ≡ (given_to w s.command s.number s.ask).answer
  pub becomes : (s : Step) (w : World) → (it.after s w).held ≡ (given_to w s.command s.number s.ask).world
  pub lasts : (s : Step) (w : World) → Lasts w (it.after s w)
  pub gets : (s : Step) (w : World) → GetsNumbers w (after_step s w (it.after s w) (lasts s w)) s.ask (it.answer s w)
  pub lawful : IsLawful (by_cells it)
  pub waves : InWaves (by_cells it)
  pub least : AreLeast (by_cells it)
  -- and in any waves that keep pieces apart, as those by feet that have more cells
  pub apart : InWavesApart (by_cells it)
  pub more : ConflictByMore (by_cells it)
  -- what steps leave that went so is seen as the end of the run
  pub seen :
      (start end : World) (steps : List (Told Step (Cell Plain Name) Answer)) → Goes (by_cells it) start steps end
      → IsSeenAs (left_by (by_cells it) start steps) end
