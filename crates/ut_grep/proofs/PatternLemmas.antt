-- Patterns, one after another.
use Rattle.std.proofs.Common.{◌≡◌, List, ◌++◌, map}
use Rattle.std.specs.Prelude.{Result, Ok, Err}
use Rattle.rk_base.specs.Text.{Text}
use Rattle.ut_grep.specs.declared.grep.Manner.{Manner}
use Rattle.ut_grep.specs.declared.pattern.Pattern.{Pattern}
use Rattle.ut_grep.specs.Greps.{PatternValue}
use Rattle.ut_grep.specs.Chosen.{patterns_of}
use Rattle.ut_grep.specs.Patterns.{pattern_value}

-- behind these patterns
abbrev pub behind : List PatternValue → Result (List PatternValue) Text → Result (List PatternValue) Text
behind xs (Ok ys) = Ok (xs ++ ys)
behind xs (Err text) = Err text

-- the patterns of the texts that are left, behind those that there are, are those of all
abbrev pub Left : Manner → List Text → List Text → List Pattern → Type 0
Left m texts left patterns = behind (map pattern_value patterns) (patterns_of m left) ≡ patterns_of m texts
