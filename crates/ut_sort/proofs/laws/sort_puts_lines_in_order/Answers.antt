use Rattle.ut_sort.specs.Orders.{is_before}
use Rattle.ut_sort.proofs.OrderLemmas.{line_order}
use Rattle.ut_sort.proofs.OrderedLemmas.{permuted, sorted_from, ascends_ordered}
use Rattle.ut_sort.proofs.laws.sort_puts_lines_in_order.Goals as goal

pub returns : goal.returns
returns c = λ s lines. (permuted (is_before s) lines, sorted_from (is_before s) (line_order s) _ (ascends_ordered (is_before s) (line_order s) lines))
