-- What the code's `grep` is.
use Rattle.std.specs.Prelude.{map}
use Rattle.ut_filter.specs.Filters.{Job}
use Rattle.ut_grep.specs.declared.grep.Grep.{Grep}
use Rattle.ut_grep.specs.Chosen.{grep_of}
use Rattle.ut_grep.specs.Greps.{GrepValue, value_job}
use Rattle.ut_grep.specs.Patterns.{pattern_value}

abbrev pub grep_value : Grep → GrepValue
grep_value g = grep_of g.manner (map pattern_value g.patterns.items)

abbrev pub grep_job : Grep → Job
grep_job g = value_job (grep_value g)
