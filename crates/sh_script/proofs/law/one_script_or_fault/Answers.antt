use Rattle.sh_script.proofs.Whole.{some, one_script_there, one_fault_there, not_both_there}
use Rattle.sh_script.proofs.ReadAs.{script_read, fault_read}
use Rattle.sh_script.proofs.law.one_script_or_fault.Goals as goal

pub returns-clause-some : goal.returns-clause-some
returns-clause-some c = some

pub returns-clause-one_script : goal.returns-clause-one_script
returns-clause-one_script c = one_script_there

pub returns-clause-one_fault : goal.returns-clause-one_fault
returns-clause-one_fault c = one_fault_there

pub returns-clause-not_both : goal.returns-clause-not_both
returns-clause-not_both c = not_both_there

pub returns-clause-script_read : goal.returns-clause-script_read
returns-clause-script_read c = script_read

pub returns-clause-fault_read : goal.returns-clause-fault_read
returns-clause-fault_read c = fault_read
