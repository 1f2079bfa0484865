use Rattle.ut_sort.proofs.DistinctLemmas.{keeps_first}
use Rattle.ut_sort.proofs.laws.sort_keeps_the_first_of_equal_keys.Goals as goal

pub returns : goal.returns
returns c = keeps_first
