use Rattle.ut_bre.proofs.Imaged.{Passed}
use Rattle.ut_bre.proofs.image.bytes_image.Given as goal

abbrev pub invariant-places : goal.invariant-places
invariant-places l = Passed l.line l.one l.set l.times.least l.most l.at l.run l.best l.to
