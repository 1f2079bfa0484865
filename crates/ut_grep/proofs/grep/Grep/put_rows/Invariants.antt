use Rattle.std.proofs.Common.{◌≡◌, ◌+◌, length, count_by}
use Rattle.ut_filter.specs.Lines.{lines_of}
use Rattle.ut_filter.specs.Outputs.{put}
use Rattle.ut_grep.specs.Greps.{rows, selects, selected}
use Rattle.ut_grep.specs.Values.{grep_value}
use Rattle.ut_grep.proofs.grep.Grep.put_rows.Given as goal

abbrev pub invariant-lines : goal.invariant-lines
invariant-lines l =
    (put l.output (rows (grep_value l.self) l.name l.number (lines_of l.rest)) ≡ put l.initial.output (rows (grep_value l.self) l.name 1 (lines_of l.text))) × (l.count + count_by (selects (grep_value l.self)) (lines_of l.rest) ≡ selected (grep_value l.self) l.text)

abbrev pub decreases-lines : goal.decreases-lines
decreases-lines l = length l.rest
