use Rattle.sh_script.proofs.InOrder.{as_many, in_order_there}
use Rattle.sh_script.proofs.law.documents_in_order.Goals as goal

pub returns-clause-as_many : goal.returns-clause-as_many
returns-clause-as_many c = as_many

pub returns-clause-in_order : goal.returns-clause-in_order
returns-clause-in_order c = in_order_there
