-- Options that were given.
use Rattle.std.specs.Prelude.{ℕ, List, [], ◌∷◌, ◌++◌, Option, None, option_to_list, Bool, false, ◌==◌, if◌then◌else◌}
use Rattle.std.specs.List.{list_any}
use Rattle.rk_base.specs.Text.{Text}
use Rattle.ut_args.specs.declared.opts.Given.{Given}

-- whether an option was given
abbrev pub has : ℕ → List Given → Bool
has letter = list_any (λ (g : Given). g.letter == letter)

-- the argument of an option as it was given last, or else this one
abbrev pub last_argument : ℕ → Option Text → List Given → Option Text
last_argument letter found [] = found
last_argument letter found (g ∷ gs) = last_argument letter (if g.letter == letter then g.argument else found) gs

-- the arguments that an option has
abbrev pub argument_of : ℕ → Given → List Text
argument_of letter g = if g.letter == letter then option_to_list g.argument else []

abbrev pub arguments_of : ℕ → List Given → List Text
arguments_of letter [] = []
arguments_of letter (g ∷ gs) = argument_of letter g ++ arguments_of letter gs

-- options and operands
pub record ArgsValue : Type 0 where
  pub given : List Given
  pub operands : List Text

-- Utilities name their options by texts of one letter.

abbrev pub gives : ArgsValue → Text → Bool
gives args [] = false
gives args (letter ∷ more) = has letter args.given

-- the argument that an option has, the last one where it was given several times
abbrev pub argument : ArgsValue → Text → Option Text
argument args [] = None
argument args (letter ∷ more) = last_argument letter None args.given

-- all arguments that an option has, in their order
abbrev pub arguments : ArgsValue → Text → List Text
arguments args [] = []
arguments args (letter ∷ more) = arguments_of letter args.given
