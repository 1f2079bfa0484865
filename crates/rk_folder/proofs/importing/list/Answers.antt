use Rattle.rk_folder.proofs.CallsLemmas.{makes-one}
use Rattle.rk_folder.proofs.importing.list.Goals as goal

pub returns-in_err-items-clause-calls : goal.returns-in_err-items-clause-calls
returns-in_err-items-clause-calls g c = makes-one _ _ _ _ c.list.result c.list.ensures.schedule

pub returns-clause-calls : goal.returns-clause-calls
returns-clause-calls g c = makes-one _ _ _ _ c.list.result c.list.ensures.schedule
