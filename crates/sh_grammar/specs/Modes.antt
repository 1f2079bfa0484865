-- Modes by numbers.
use Rattle.std.specs.Prelude.{ℕ}
use Rattle.sh_rules.specs.declared.token_kind.Mode.{Mode}
use Rattle.sh_rules.specs.declared.token_kind.Mode.TheVariants as m

abbrev pub mode_number : Mode → ℕ
mode_number m.CommandStart = 0
mode_number m.Prefix = 1
mode_number m.Argument = 2
mode_number m.PatternStart = 3
mode_number m.CaseIn = 4
mode_number m.PatternRest = 5
mode_number m.Bodies = 6
mode_number m.BodyText = 7
mode_number m.Value = 8
mode_number m.InWord = 9
mode_number m.InQuotes = 10
mode_number m.BraceStart = 11
mode_number m.InBraces = 12
mode_number m.InQuotedBraces = 13
mode_number m.InArithmetic = 14
mode_number m.ForName = 15
mode_number m.FunctionOpen = 16
mode_number m.FunctionClose = 17
mode_number m.HereDelimiter = 18
