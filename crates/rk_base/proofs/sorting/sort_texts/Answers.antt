use Rattle.rk_base.proofs.SortLemmas.{sorted_is}
use Rattle.rk_base.proofs.sorting.sort_texts.Goals as goal

pub returns : goal.returns
returns c = sorted_is c.args.texts.now.items c.sort.new.self.items c.in_ok-sort.ensures.permutation c.in_ok-sort.ensures.sorted
