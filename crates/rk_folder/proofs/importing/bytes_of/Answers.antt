use Rattle.rk_folder.proofs.CallsLemmas.{makes-one}
use Rattle.rk_folder.proofs.importing.bytes_of.Goals as goal

pub returns-in_err-bytes-clause-calls : goal.returns-in_err-bytes-clause-calls
returns-in_err-bytes-clause-calls g c = makes-one _ _ _ _ c.read.result c.read.ensures.schedule

pub returns-in-Content-clause-calls : goal.returns-in-Content-clause-calls
returns-in-Content-clause-calls g c = makes-one _ _ _ _ c.read.result c.read.ensures.schedule

pub returns-in-Absent-clause-calls : goal.returns-in-Absent-clause-calls
returns-in-Absent-clause-calls g c = makes-one _ _ _ _ c.read.result c.read.ensures.schedule
