use Rattle.std.proofs.Common.{sym}
use Rattle.rk_top.proofs.GeneratedLemmas.{newest-few, newest-paid, none-ran}
use Rattle.rk_top.proofs.generate.turns_of.Goals as goal

pub paid-requires : goal.paid-requires
paid-requires c = newest-few c.args.old.now c.args.now.now c.in-Some.table.now c.in-Some.ensures c.requires

pub returns-in-Some : goal.returns-in-Some
returns-in-Some c = newest-paid c.args.old.now c.args.now.now c.in-Some.table.now c.paid.result c.in-Some.ensures c.paid.ensures

pub returns-in-None : goal.returns-in-None
returns-in-None c = sym (none-ran c.args.old.now c.args.now.now c.in-None.ensures)
