use Rattle.ut_places.specs.Steps.{Leads}
use Rattle.ut_places.proofs.StepLemmas.{counted-steps}
use Rattle.ut_places.proofs.steps.counted.Goals as goal

pub returns : goal.returns
returns c = counted-steps (Leads c.args.table.now) c.args.least c.args.more c.args.set.now c.in_ok-needed.needed c.in_ok-all.all c.in_ok-needed.ensures c.in_ok-all.ensures
