use Rattle.rk_tree.proofs.AscendingLemmas.{held_new, kept_new}
use Rattle.rk_tree.proofs.ascending.Ascending.new.Goals as goal

pub invariant_of-result : goal.invariant_of-result
invariant_of-result c = kept_new c.new.result.items c.new.ensures.items

pub returns : goal.returns
returns c = held_new c.new.result.items c.new.ensures.items
