use Rattle.ut_bre.proofs.ReadLemmas.{repeats}
use Rattle.ut_bre.proofs.reader.repeat_last.Goals as goal

pub returns-in_ok-push-in-Some : goal.returns-in_ok-push-in-Some
returns-in_ok-push-in-Some c = repeats c.args.times _ _ _ c.in-Some.item c.with_times.result c.in-Some.ensures.items c.with_times.ensures c.in_ok-push-in-Some.ensures.items
