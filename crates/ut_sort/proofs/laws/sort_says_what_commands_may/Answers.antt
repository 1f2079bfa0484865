use Rattle.ut_sort.specs.Laws.{talk-sort_utility}
use Rattle.ut_sort.proofs.laws.sort_says_what_commands_may.Goals as goal

pub returns : goal.returns
returns c = talk-sort_utility
