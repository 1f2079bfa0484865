-- What `printf` has made so far.
use Rattle.std.specs.Prelude.{List, [], ◌∷◌, ◌++◌}
use Rattle.rk_base.specs.Text.{Text}

-- the output, and the operands that are no numbers
pub record MadeValue : Type 0 where
  pub output : Text
  pub bad : List Text

abbrev pub nothing : MadeValue
nothing = record { output = []; bad = [] }

abbrev pub with_text : Text → MadeValue → MadeValue
with_text text made = record made { output = made.output ++ text }

abbrev pub with_bad : Text → MadeValue → MadeValue
with_bad word made = record made { bad = made.bad ++ word ∷ [] }
