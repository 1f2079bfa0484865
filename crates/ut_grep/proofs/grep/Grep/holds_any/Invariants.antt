use Rattle.std.proofs.Common.{◌≡◌, drop, map}
use Rattle.std.specs.List.{list_any}
use Rattle.ut_grep.specs.Greps.{holds, matches}
use Rattle.ut_grep.specs.Patterns.{pattern_value}
use Rattle.ut_grep.specs.Values.{grep_value}
use Rattle.ut_grep.proofs.grep.Grep.holds_any.Given as goal

abbrev pub invariant-loop-pattern : goal.invariant-loop-pattern
invariant-loop-pattern l = list_any (holds (grep_value l.self) l.line) (map pattern_value (drop l.pattern-index l.self.patterns.items)) ≡ matches (grep_value l.self) l.line
