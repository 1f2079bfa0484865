use Rattle.ut_places.specs.Steps.{Steps, Leads, IsImage}
use Rattle.ut_places.proofs.steps.after.Given as goal

abbrev pub invariant-steps : goal.invariant-steps
invariant-steps l = IsImage (Steps (Leads l.table) l.counter) l.set l.here
