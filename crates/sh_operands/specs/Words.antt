-- Words of builtins.
use Rattle.std.specs.Prelude.{List, [], ◌∷◌, ◌++◌, Bool, not, Option, Some, None, if◌then◌else◌}
use Rattle.rk_base.specs.Text.{Text}
use Rattle.rk_base.specs.Variables.{is_variable}

-- each word behind a blank
abbrev pub behind : List Text → Text
behind [] = []
behind (word ∷ words) = 32 ∷ word ++ behind words

-- words with a blank between each two
abbrev pub joined : List Text → Text
joined [] = []
joined (word ∷ words) = word ++ behind words

-- the first word of which this is so
abbrev pub first_that : (Text → Bool) → List Text → Option Text
first_that p [] = None
first_that p (x ∷ xs) = if p x then Some x else first_that p xs

-- a word that no variable may have as its name
abbrev pub is_misnamed : Text → Bool
is_misnamed x = not (is_variable x)
