use Rattle.ut_bre.specs.Starting.{AreOut}
use Rattle.ut_bre.proofs.starts.next_in.Given as goal

abbrev pub invariant-bytes : goal.invariant-bytes
invariant-bytes l = AreOut l.table l.line l.from l.at
