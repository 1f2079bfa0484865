use Rattle.ut_grep.specs.Laws.{talk-grep_utility}
use Rattle.ut_grep.proofs.laws.grep_says_what_commands_may.Goals as goal

pub returns : goal.returns
returns c = talk-grep_utility
