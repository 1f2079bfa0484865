-- From a directory up to the root, as a program: it reads where each directory on the way stands.
use Rattle.std.specs.Prelude.{ℕ, zero, suc, List, [], ◌∷◌, map, Bool, false, ◌||◌, if◌then◌else◌, Option, Some, None}
use Rattle.rk_base.specs.Text.{Text}
use Rattle.rk_base.specs.declared.errno.Errno.TheVariants.{NoEntry}
use Rattle.rk_waves.specs.Programs.{Reads, One}
use Rattle.rk_feet.specs.Checks.{no}
use Rattle.rk_feet.specs.Named.{Name, AboveOf, above, Does}
use Rattle.rk_feet.specs.Naming.{same_name}
use Rattle.rk_feet.specs.Ways.{is_top}

-- the directories on a way up, without the root, each with its name in the next one
abbrev pub Way : Type 0
Way = List (Name × Text)

abbrev pub names_of : Way → List Text
names_of way = map (λ step. step.1) way

-- a directory is on the way
abbrev pub passes : Way → Name → Bool
passes [] n = false
passes (step ∷ steps) n = same_name n step.0 || passes steps n

abbrev pub climb_from : (Name × Text → Does) → Option (Name × Text) → Does
climb_from on None = no NoEntry
climb_from on (Some up) = on up

-- The way up, of which something is made. From a directory that stands no deeper than `levels` it comes to the root.
abbrev pub climb : ℕ → (Way → Does) → Name → Does
climb zero make at = make []
climb (suc levels) make at =
    if is_top at then make []
    else Reads (One (AboveOf at)) (λ u. climb_from (λ up. climb levels (λ way. make ((at, up.1) ∷ way)) up.0) (above u))
