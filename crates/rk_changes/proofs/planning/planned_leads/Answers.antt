use Rattle.rk_changes.proofs.NeededLemmas.{all_due}
use Rattle.rk_changes.proofs.PlannedLemmas.{planned_allowed, planned_after, nothing_planned}
use Rattle.rk_changes.proofs.planning.planned_leads.Goals as goal

pub returns-clause-allowed : goal.returns-clause-allowed
returns-clause-allowed c = λ before after held ready. planned_allowed held before after ready

pub returns-clause-leads : goal.returns-clause-leads
returns-clause-leads c = λ before after held ready. planned_after held before after ready

pub returns-clause-needed : goal.returns-clause-needed
returns-clause-needed c = λ before after held ready. all_due held before after ready

pub returns-clause-nothing : goal.returns-clause-nothing
returns-clause-nothing c = λ before after same. nothing_planned before after same
