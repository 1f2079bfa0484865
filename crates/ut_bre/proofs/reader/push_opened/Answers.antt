use Rattle.ut_bre.proofs.ReadLemmas.{popped}
use Rattle.ut_bre.proofs.reader.push_opened.Goals as goal

pub returns : goal.returns
returns c = popped _ _ c.args.group c.in_ok-push.ensures.items
