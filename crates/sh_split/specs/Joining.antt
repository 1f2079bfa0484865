-- Words that are joined.
use Rattle.std.specs.Prelude.{List, [], ◌∷◌, ◌++◌, take, Option, Some, None}
use Rattle.rk_base.specs.Text.{Text}

-- words with this text between them
abbrev pub after_each : Text → List Text → Text
after_each separator [] = []
after_each separator (word ∷ words) = separator ++ (word ++ after_each separator words)

abbrev pub joined : Text → List Text → Text
joined separator [] = []
joined separator (word ∷ words) = word ++ after_each separator words

-- the first byte of IFS, by which positional parameters are joined; a blank where IFS is unset
abbrev pub first_byte : Option Text → Text
first_byte None = 32 ∷ []
first_byte (Some text) = take 1 text
