use Rattle.ut_bre.proofs.NeededLemmas.{needed_more}
use Rattle.ut_bre.proofs.needed.+needed.Goals as goal

pub needed-items-preserved : goal.needed-items-preserved
needed-items-preserved t c =
    needed_more c.args.items.now c.items.item-index c.item-item.result c.items.found c.needed_item.result c.later-found.result _ c.items-test.true c.item-item.is c.items.invariant c.needed_item.ensures c.later-found.ensures
