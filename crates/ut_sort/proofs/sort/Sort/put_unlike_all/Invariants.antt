use Rattle.std.proofs.Common.{◌≡◌, ◌++◌, drop}
use Rattle.ut_sort.specs.Orders.{is_same}
use Rattle.ut_sort.specs.Sorts.{text_of, texts, unlike}
use Rattle.ut_sort.proofs.sort.Sort.put_unlike_all.Given as goal

abbrev pub invariant-lines : goal.invariant-lines
invariant-lines l = l.output.items ++ text_of (unlike (is_same l.self) l.last (texts (drop l.next-index l.lines))) ≡ l.initial.output.items ++ text_of (unlike (is_same l.self) l.line (texts l.lines))
