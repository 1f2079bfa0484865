use Rattle.ut_text.specs.Laws.{talk-text_utility}
use Rattle.ut_text.proofs.laws.text_utilities_say_what_commands_may.Goals as goal

pub returns : goal.returns
returns c = talk-text_utility
