use Rattle.rk_install.proofs.LookLemmas.{told-content}
use Rattle.rk_folder.proofs.CallsLemmas.{makes-one}
use Rattle.rk_install.proofs.looking.bytes_of.Goals as goal

pub returns-in-Ok-clause-told : goal.returns-in-Ok-clause-told
returns-in-Ok-clause-told g c = told-content _ c.args.file.now c.in-Ok.got c.content_of.result c.in-Ok.ensures.got c.content_of.ensures

pub returns-in-Ok-clause-calls : goal.returns-in-Ok-clause-calls
returns-in-Ok-clause-calls g c = makes-one _ _ _ _ c.read.result c.read.ensures.schedule

pub returns-in-Err-Failed-clause-calls : goal.returns-in-Err-Failed-clause-calls
returns-in-Err-Failed-clause-calls g c = makes-one _ _ _ _ c.read.result c.read.ensures.schedule

pub returns-in-Err-NoMemory-clause-calls : goal.returns-in-Err-NoMemory-clause-calls
returns-in-Err-NoMemory-clause-calls g c = makes-one _ _ _ _ c.read.result c.read.ensures.schedule
