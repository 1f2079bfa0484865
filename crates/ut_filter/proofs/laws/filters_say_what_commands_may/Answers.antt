use Rattle.ut_filter.specs.Laws.{talk-filters}
use Rattle.ut_filter.proofs.laws.filters_say_what_commands_may.Goals as goal

pub returns : goal.returns
returns c = talk-filters
