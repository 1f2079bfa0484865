use Rattle.sh_eval.proofs.Writable.{nothing_none}
use Rattle.sh_eval.proofs.shell.first_variables.Goals as goal

pub give_all-requires : goal.give_all-requires
give_all-requires c = record { free = nothing_none c.new-vars.result c.new-vars.ensures }
