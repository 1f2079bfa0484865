use Rattle.ut_places.specs.Steps.{Leads}
use Rattle.ut_places.proofs.StepLemmas.{IsWave}
use Rattle.ut_places.proofs.steps.up_to.Given as goal

abbrev pub invariant-steps : goal.invariant-steps
invariant-steps l = IsWave (Leads l.table) l.set l.all l.new l.counter
