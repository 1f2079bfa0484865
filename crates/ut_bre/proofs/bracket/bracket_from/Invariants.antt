use Rattle.std.proofs.Common.{length}
use Rattle.ut_bre.proofs.ReadLemmas.{ListedLeft}
use Rattle.ut_bre.proofs.bracket.bracket_from.Given as goal

abbrev pub invariant-listed : goal.invariant-listed
invariant-listed l = ListedLeft l.negated l.start l.from l.text l.left l.listed.items

abbrev pub decreases-listed : goal.decreases-listed
decreases-listed l = length l.left
