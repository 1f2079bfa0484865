use Rattle.ut_select.specs.Laws.{talk-select_utility}
use Rattle.ut_select.proofs.laws.select_utilities_say_what_commands_may.Goals as goal

pub returns : goal.returns
returns c = talk-select_utility
