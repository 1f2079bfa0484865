use Rattle.std.proofs.Common.{◌≡◌, ◌++◌, drop, map}
use Rattle.std.specs.List.{list_all}
use Rattle.ut_grep.specs.Greps.{fixed}
use Rattle.ut_grep.specs.Patterns.{pattern_value}
use Rattle.ut_grep.specs.Sought.{is_text}
use Rattle.ut_grep.proofs.sought.texts_of.Given as goal

abbrev pub invariant-patterns : goal.invariant-patterns
invariant-patterns l =
    (list_all is_text (drop l.pattern-index l.patterns) ≡ list_all is_text l.patterns) × (map fixed l.texts.items ++ map pattern_value (drop l.pattern-index l.patterns) ≡ map pattern_value l.patterns)
