-- What the reading of a name or a path tells.
use Rattle.std.specs.Prelude.{◌≡◌, ℕ, List, Bool, true, false, Result, Ok, Err}
use Rattle.rk_base.specs.declared.path.PathFault.{PathFault}
use Rattle.rk_base.specs.declared.path.PathFault.TheVariants.{Invalid, NoMemory}

-- Ok with the same text only where it passes, Invalid only where it doesn't
abbrev pub Reads : Bool → List ℕ → Result (List ℕ) PathFault → Type 0
Reads passes text (Ok it) = (it ≡ text) × (passes ≡ true)
Reads passes text (Err Invalid) = passes ≡ false
Reads passes text (Err NoMemory) = Unit {0}
