use Rattle.std.proofs.Common.{◌≡◌, ◌++◌, drop, map}
use Rattle.ut_filter.specs.Parts.{all_lines}
use Rattle.ut_sort.specs.Orders.{line_of}
use Rattle.ut_sort.specs.Sorts.{views}
use Rattle.ut_sort.proofs.sort.Sort.lines.Given as goal

abbrev pub invariant-inputs : goal.invariant-inputs
invariant-inputs l = views l.lines.items ++ map (line_of l.self) (all_lines (drop l.input-index l.inputs)) ≡ map (line_of l.self) (all_lines l.inputs)
