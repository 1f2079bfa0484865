use Rattle.std.proofs.Common.{sym, arith}
use Rattle.ut_filter.proofs.LineLemmas.{first-none, first-at}
use Rattle.ut_filter.proofs.lines.line_length.Goals as goal

pub returns-in-None : goal.returns-in-None
returns-in-None c = record { length = sym (first-none c.args.text.now c.in-None.ensures); within = omega arith }

pub returns-in-Some : goal.returns-in-Some
returns-in-Some c =
    let e = c.in-Some.ensures in
    record { length = sym (first-at c.args.text.now c.in-Some.at e.0.high e.1 e.0.before); within = omega (arith, e.0.high) }
