use Rattle.std.proofs.Common.{sym, subst}
use Rattle.rk_tree.proofs.NamesLemmas.{AreNames, names-empty}
use Rattle.rk_tree.proofs.names.Names.new.Goals as goal

pub invariant_of-result : goal.invariant_of-result
invariant_of-result c = subst AreNames (sym c.new.ensures) names-empty
