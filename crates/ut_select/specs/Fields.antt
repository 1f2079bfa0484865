-- The fields of a text, one by one.
use Rattle.std.specs.Prelude.{ℕ, List, [], ◌∷◌, ◌++◌, Option, Some, None, Bool, true, false, ◌==◌}
use Rattle.std.specs.List.{slice_split}
use Rattle.rk_base.specs.Text.{Text}

-- what stands between bytes of this value
abbrev pub fields : ℕ → Text → List Text
fields at text = slice_split (λ b. b == at) text

-- of what is left of a text
abbrev pub fields_left : ℕ → Option Text → List Text
fields_left at None = []
fields_left at (Some text) = fields at text

-- each after a byte of this value
abbrev pub each_after : ℕ → List Text → Text
each_after at [] = []
each_after at (field ∷ more) = at ∷ field ++ each_after at more

-- with a byte of this value between each two
abbrev pub joined : ℕ → List Text → Text
joined at [] = []
joined at (field ∷ more) = field ++ each_after at more

-- after others or not
abbrev pub joined_after : Bool → ℕ → List Text → Text
joined_after false at texts = joined at texts
joined_after true at texts = each_after at texts
