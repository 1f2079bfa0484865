use Rattle.rk_folder.proofs.CallsLemmas.{makes-one}
use Rattle.rk_install.proofs.looking.listed.Goals as goal

pub returns-in-Ok-clause-calls : goal.returns-in-Ok-clause-calls
returns-in-Ok-clause-calls g c = makes-one _ _ _ _ c.list.result c.list.ensures.schedule

pub returns-in-Err-Failed-clause-calls : goal.returns-in-Err-Failed-clause-calls
returns-in-Err-Failed-clause-calls g c = makes-one _ _ _ _ c.list.result c.list.ensures.schedule

pub returns-in-Err-NoMemory-clause-calls : goal.returns-in-Err-NoMemory-clause-calls
returns-in-Err-NoMemory-clause-calls g c = makes-one _ _ _ _ c.list.result c.list.ensures.schedule
