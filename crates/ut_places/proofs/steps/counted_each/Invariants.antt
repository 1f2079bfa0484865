use Rattle.ut_places.specs.Steps.{Counted, Leads}
use Rattle.ut_places.proofs.StepLemmas.{IsEach}
use Rattle.ut_places.proofs.steps.counted_each.Given as goal

abbrev pub invariant-sets : goal.invariant-sets
invariant-sets l = IsEach (Counted (Leads l.table) l.least l.more) l.sets l.set-index l.all.items
