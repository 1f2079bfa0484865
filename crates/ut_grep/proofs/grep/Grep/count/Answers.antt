use Rattle.ut_filter.specs.Lines.{lines_of}
use Rattle.ut_grep.specs.Values.{grep_value}
use Rattle.ut_grep.proofs.PassingLemmas.{counted_on, counted_end}
use Rattle.ut_grep.proofs.grep.Grep.count.Goals as goal

pub lines-preserved : goal.lines-preserved
lines-preserved c =
    counted_on (grep_value c.args.self.now) c.lines.rest.now c.in-Some.field-0-0.now c.in-Some.line.now c.in-Some.after.now c.lines.count c.in_ok-count.count _ c.in_ok-selects.selects c.in-Some.ensures.cut c.in-Some.ensures.passed c.in_ok-selects.ensures c.in_ok-count.ensures c.lines.invariant

pub returns : goal.returns
returns c = counted_end (grep_value c.args.self.now) (lines_of c.lines.rest.now) c.lines.count _ c.in_default.ensures.cut c.lines.invariant
