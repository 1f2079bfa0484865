use Rattle.rk_changes.proofs.ImportedLemmas.{has_places-imported, holds-imported, may_become-imported}
use Rattle.rk_changes.proofs.SeenLemmas.{odd-within}
use Rattle.rk_changes.proofs.imported.imported_holds.Goals as goal

pub returns-clause-holds : goal.returns-clause-holds
returns-clause-holds c = holds-imported

pub returns-clause-odd : goal.returns-clause-odd
returns-clause-odd c = odd-within

pub returns-clause-becomes : goal.returns-clause-becomes
returns-clause-becomes c = λ fresh held after whole plain built. may_become-imported held whole plain fresh after built

pub returns-clause-places : goal.returns-clause-places
returns-clause-places c = λ fresh held whole plain. has_places-imported held whole plain fresh
