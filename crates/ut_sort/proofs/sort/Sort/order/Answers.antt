use Rattle.std.proofs.Common.{◌≡◌, rules}
use Rattle.std.specs.Ordering.{is_lt}
use Rattle.std.proofs.lemmas.Fn.{always_returns_same}
use Rattle.ut_sort.specs.declared.line.Line.{Line}
use Rattle.ut_sort.specs.Orders.{found_cmp}
use Rattle.ut_sort.specs.Sorts.{view}
use Rattle.ut_sort.proofs.OrderLemmas.{found_order}
use Rattle.ut_sort.proofs.OrderedLemmas.{ordered_is}
use Rattle.ut_sort.proofs.sort.Sort.order.Goals as goal

pub returns : goal.returns
returns c =
    let answers = always_returns_same _ (λ a r. is_lt r ≡ is_lt (found_cmp c.args.self.now (view a.0.now) (view a.1.0.now))) _ (λ a r f k. search rules) in
    ordered_is (λ (a b : Line). is_lt (found_cmp c.args.self.now (view a) (view b))) (found_order c.args.self.now) c.args.lines.now.items c.sort_by.new.self.items
    (c.in_ok-sort_by.ensures.sorted _ (found_order c.args.self.now) answers)
    (c.in_ok-sort_by.ensures.stable _ (found_order c.args.self.now) answers)
