use Rattle.std.proofs.Common.{◌≡◌, ◌++◌, drop}
use Rattle.ut_sort.specs.Sorts.{text_of, texts}
use Rattle.ut_sort.proofs.put.put_lines.Given as goal

abbrev pub invariant-lines : goal.invariant-lines
invariant-lines l = l.output.items ++ text_of (texts (drop l.line-index l.lines)) ≡ l.initial.output.items ++ text_of (texts l.lines)
