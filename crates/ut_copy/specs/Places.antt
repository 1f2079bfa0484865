-- Places of directories.
use Rattle.std.specs.Prelude.{[], ◌∷◌, ◌++◌, Bool}
use Rattle.rk_base.specs.Text.{Text, begins_with, stem}

-- whether a path stands below this one
abbrev pub begins_below : Text → Text → Bool
begins_below above path = begins_with path (stem above ++ 47 ∷ [])
