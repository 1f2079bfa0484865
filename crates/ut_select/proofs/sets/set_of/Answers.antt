use Rattle.std.proofs.Common.{◌-◌, arith}
use Rattle.ut_select.proofs.SetLemmas.{set_step}
use Rattle.ut_select.proofs.sets.set_of.Goals as goal

pub items-preserved : goal.items-preserved
items-preserved c = set_step c.items.left (c.items.left - 1) _ _ _ _ _ c.in_ok-rest.ensures c.items.invariant (omega arith)
