-- Patterns as the code has them.
use Rattle.std.specs.Prelude.{◌≡◌, List, map, Result, Ok, Err}
use Rattle.std.proofs.Common.{Vec, Global}
use Rattle.rk_base.specs.Text.{Text}
use Rattle.ut_bre.specs.Expressions.{expression}
use Rattle.ut_grep.specs.declared.pattern.Pattern.{Pattern}
use Rattle.ut_grep.specs.declared.pattern.Pattern.TheVariants.{Fixed, Basic}
use Rattle.ut_grep.specs.Greps.{PatternValue, fixed, basic}

abbrev pub pattern_value : Pattern → PatternValue
pattern_value (Fixed text) = fixed text
pattern_value (Basic bre) = basic (expression bre)

abbrev pub IsPattern : Result PatternValue Text → Result Pattern Text → Type 0
IsPattern r (Ok pattern) = r ≡ Ok (pattern_value pattern)
IsPattern r (Err text) = r ≡ Err text

abbrev pub ArePatterns : Result (List PatternValue) Text → Result (Vec Pattern Global) Text → Type 0
ArePatterns r (Ok patterns) = r ≡ Ok (map pattern_value patterns.items)
ArePatterns r (Err text) = r ≡ Err text
