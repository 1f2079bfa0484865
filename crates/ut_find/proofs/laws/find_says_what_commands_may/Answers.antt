use Rattle.ut_find.specs.Laws.{talk-find_utility}
use Rattle.ut_find.proofs.laws.find_says_what_commands_may.Goals as goal

pub returns : goal.returns
returns c = talk-find_utility
