use Rattle.std.proofs.Common.{length, arith}
use Rattle.ut_filter.proofs.LineLemmas.{cut-all, lacks-before}
use Rattle.ut_filter.proofs.lines.lines_without.Goals as goal

pub returns-in-None : goal.returns-in-None
returns-in-None c =
    let t = c.args.text.now in
    record { within = omega arith; cut = cut-all t; lacks = lacks-before t c.args.b (length t) (length t) (omega arith) c.in-None.ensures }

pub returns-in-Some : goal.returns-in-Some
returns-in-Some c =
    let t = c.args.text.now in
    let e = c.in-Some.ensures in
    record {
      within = omega (arith, e.0.high, c.line_start.ensures.within);
      cut = c.line_start.ensures.cut;
      lacks = lacks-before t c.args.b c.in-Some.at c.line_start.result c.line_start.ensures.within e.0.before;
    }
