use Rattle.ut_filter.specs.Lines.{lines_of}
use Rattle.ut_grep.specs.Values.{grep_value}
use Rattle.ut_grep.proofs.PassingLemmas.{counted_on, counted_end, told_on, told_end}
use Rattle.ut_grep.proofs.grep.Grep.put_rows.Goals as goal

pub lines-preserved : goal.lines-preserved
lines-preserved c =
    let g = grep_value c.args.self.now in
    let rest = c.lines.rest.now in
    let next = c.in-Some.ensures in (
      told_on g c.args.name.now rest c.in-Some.passed.now c.in-Some.line.now c.in-Some.after.now c.lines.output c.put_greped.new.output _ c.lines.number c.in_ok-n.n c.in_ok-number.number next.cut next.passed c.in_ok-n.ensures c.in_ok-number.ensures c.in_ok-selects.ensures.output c.lines.invariant.0,
      counted_on g rest c.in-Some.passed.now c.in-Some.line.now c.in-Some.after.now c.lines.count c.in_ok-count.count _ c.in_ok-selects.selects next.cut next.passed c.in_ok-selects.ensures.selects c.in_ok-count.ensures c.lines.invariant.1,
    )

pub returns-clause-output : goal.returns-clause-output
returns-clause-output c =
    told_end (grep_value c.args.self.now) c.args.name.now c.lines.output _ c.lines.number (lines_of c.lines.rest.now) c.in_default.ensures.cut c.lines.invariant.0

pub returns-clause-count : goal.returns-clause-count
returns-clause-count c = counted_end (grep_value c.args.self.now) (lines_of c.lines.rest.now) c.lines.count _ c.in_default.ensures.cut c.lines.invariant.1
