use Rattle.std.proofs.Common.{◌≡◌, ◌++◌, length}
use Rattle.ut_filter.specs.Lines.{lines_of}
use Rattle.ut_select.specs.Cuts.{cut_text}
use Rattle.ut_select.proofs.cut.Cut.put_text.Given as goal

abbrev pub invariant-lines : goal.invariant-lines
invariant-lines l = l.output.items ++ cut_text l.self (lines_of l.rest) ≡ l.initial.output.items ++ cut_text l.self (lines_of l.text)

abbrev pub decreases-lines : goal.decreases-lines
decreases-lines l = length l.rest
