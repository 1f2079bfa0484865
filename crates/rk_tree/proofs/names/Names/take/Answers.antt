use Rattle.std.proofs.Common.{sym, subst}
use Rattle.rk_tree.specs.Ascending.{names_by}
use Rattle.rk_tree.specs.Names.{named}
use Rattle.rk_tree.specs.Rows.{map_of}
use Rattle.rk_tree.specs.declared.names.Names.TheInside.{Inside}
use Rattle.rk_tree.specs.declared.names.Rows.{Rows}
use Rattle.rk_tree.proofs.NamesLemmas.{AreNames, names-remove}
use Rattle.rk_tree.proofs.names.Names.take.Goals as goal
use Rattle.rk_tree.proofs.names.Names.take.Goals.{in-InOrder, in-Searched}

pub invariant_of-self : goal.invariant_of-self
invariant_of-self c = elim c.match-self.branch [
  | in-InOrder w ↦ subst (λ (n : Inside). AreNames (names_by n.rows)) (sym w.self-inside-is) (subst AreNames (sym w.take.ensures) (names-remove w.in-InOrder.names w.as_slice.result.now (subst (λ (rows : Rows). AreNames (names_by rows)) w.in-InOrder.is c.self.invariant)))
  | in-Searched w ↦ subst (λ (n : Inside). AreNames (names_by n.rows)) (sym w.self-inside-is) (subst AreNames (sym w.take_from.ensures) (names-remove (map_of (named w.in-Searched.names.entries)) w.as_slice-in-Searched.result.now (subst (λ (rows : Rows). AreNames (names_by rows)) w.in-Searched.is c.self.invariant)))
]
