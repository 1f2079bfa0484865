use Rattle.std.proofs.Common.{◌≡◌, ◌++◌, length}
use Rattle.ut_filter.specs.Lines.{lines_of}
use Rattle.ut_text.specs.Uniqs.{rows_from}
use Rattle.ut_text.proofs.uniq.Uniq.put_rows.Given as goal

abbrev pub invariant-lines : goal.invariant-lines
invariant-lines l = l.output.items ++ rows_from l.self l.run.line.now l.run.count (lines_of l.rest) ≡ l.initial.output.items ++ rows_from l.self l.first 1 (lines_of l.text)

abbrev pub decreases-lines : goal.decreases-lines
decreases-lines l = length l.rest
