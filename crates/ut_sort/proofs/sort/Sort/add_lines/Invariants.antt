use Rattle.std.proofs.Common.{◌≡◌, ◌++◌, length, map}
use Rattle.ut_filter.specs.Lines.{lines_of}
use Rattle.ut_sort.specs.Orders.{line_of}
use Rattle.ut_sort.specs.Sorts.{views}
use Rattle.ut_sort.proofs.sort.Sort.add_lines.Given as goal

abbrev pub invariant-lines : goal.invariant-lines
invariant-lines l = views l.lines.items ++ map (line_of l.self) (lines_of l.rest) ≡ views l.initial.lines.items ++ map (line_of l.self) (lines_of l.text)

abbrev pub decreases-lines : goal.decreases-lines
decreases-lines l = length l.rest
