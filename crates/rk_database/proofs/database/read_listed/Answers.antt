use Rattle.rk_folder.specs.Hidden.{db_file}
use Rattle.rk_folder.proofs.CallsLemmas.{makes-one, reads-at}
use Rattle.rk_database.proofs.database.read_listed.Goals as goal

pub returns-in-Ok-Content-clause-calls : goal.returns-in-Ok-Content-clause-calls
returns-in-Ok-Content-clause-calls g c = reads-at _ db_file _ _ c.in_ok-file.ensures (makes-one _ _ _ _ c.read.result c.read.ensures.schedule)

pub returns-in-Ok-Absent-clause-calls : goal.returns-in-Ok-Absent-clause-calls
returns-in-Ok-Absent-clause-calls g c = reads-at _ db_file _ _ c.in_ok-file.ensures (makes-one _ _ _ _ c.read.result c.read.ensures.schedule)

pub returns-in-Err-Failed-clause-calls : goal.returns-in-Err-Failed-clause-calls
returns-in-Err-Failed-clause-calls g c = reads-at _ db_file _ _ c.in_ok-file.ensures (makes-one _ _ _ _ c.read.result c.read.ensures.schedule)

pub returns-clause-calls : goal.returns-clause-calls
returns-clause-calls g c = reads-at _ db_file _ _ c.in_ok-file.ensures (makes-one _ _ _ _ c.read.result c.read.ensures.schedule)
