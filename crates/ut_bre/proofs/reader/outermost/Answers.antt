use Rattle.std.proofs.Common.{sym}
use Rattle.ut_bre.proofs.ReadLemmas.{outermost-some, outermost-none}
use Rattle.ut_bre.proofs.reader.outermost.Goals as goal

pub returns-in-None : goal.returns-in-None
returns-in-None c = sym (outermost-none c.args.opened.now (sym c.in-None.ensures.value))

pub returns-in-Some : goal.returns-in-Some
returns-in-Some c = sym (outermost-some c.args.opened.now c.in-Some.first.now (sym c.in-Some.ensures.value))
