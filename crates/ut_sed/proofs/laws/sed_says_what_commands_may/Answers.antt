use Rattle.ut_sed.specs.Laws.{talk-sed_utility}
use Rattle.ut_sed.proofs.laws.sed_says_what_commands_may.Goals as goal

pub returns : goal.returns
returns c = talk-sed_utility
