use Rattle.std.proofs.Common.{sym}
use Rattle.ut_grep.proofs.OccursLemmas.{nowhere, somewhere}
use Rattle.ut_grep.proofs.occurs.occurs.Goals as goal

pub returns-in-None : goal.returns-in-None
returns-in-None c = sym (nowhere c.args.pattern.now c.args.text.now c.in-None.ensures)

pub returns-in-Some : goal.returns-in-Some
returns-in-Some c = sym (somewhere c.args.pattern.now c.args.text.now _ c.in-Some.ensures.0.high c.in-Some.ensures.1)
