use Rattle.ut_bre.proofs.ReadLemmas.{popped, popped-none}
use Rattle.ut_bre.proofs.reader.pop_opened.Goals as goal

pub returns-in-None : goal.returns-in-None
returns-in-None c = popped-none _ _ _ c.in-None.ensures.cases.0 c.in-None.ensures.rest c.in-None.ensures.items

pub returns-in-Some : goal.returns-in-Some
returns-in-Some c = popped _ _ c.in-Some.group c.in-Some.ensures.items
