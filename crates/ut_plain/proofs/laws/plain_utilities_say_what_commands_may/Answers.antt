use Rattle.ut_plain.specs.Laws.{talk-plain_utility}
use Rattle.ut_plain.proofs.laws.plain_utilities_say_what_commands_may.Goals as goal

pub returns : goal.returns
returns c = talk-plain_utility
