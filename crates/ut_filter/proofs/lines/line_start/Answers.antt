use Rattle.std.proofs.Common.{arith, refl}
use Rattle.ut_filter.proofs.LineLemmas.{cut-at, start-within}
use Rattle.ut_filter.proofs.lines.line_start.Goals as goal

pub returns-in-None : goal.returns-in-None
returns-in-None c = record { within = omega arith; cut = refl }

pub returns-in-Some : goal.returns-in-Some
returns-in-Some c =
    let e = c.in-Some.ensures in
    record {
      within = start-within c.args.text.now c.split_at.result.0.now c.args.at c.in-Some.newline c.split_at.ensures.front e.0.high;
      cut = cut-at c.args.text.now c.split_at.result.0.now c.args.at c.in-Some.newline c.split_at.ensures.front c.requires e.0.high e.1;
    }
