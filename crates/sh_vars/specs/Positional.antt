-- The words from which positional parameters are taken.
use Rattle.std.specs.Prelude.{List, ℕ}
use Rattle.sh_vars.specs.declared.positional.Words.{Words}
use Rattle.sh_vars.specs.declared.positional.Words.TheVariants.{Own, Shared}

abbrev pub words_of : Words → List (List ℕ)
words_of (Own words) = words
words_of (Shared words) = words.value
