use Rattle.std.proofs.Common.{◌∙◌, sym, subst}
use Rattle.rk_tree.proofs.ListLemmas.{no_list}
use Rattle.rk_tree.specs.Whole.{IsWhole}
use Rattle.rk_tree.proofs.tree.Tree.list.Goals as goal

pub unreachable-requires : goal.unreachable-requires
unreachable-requires c = no_list c.in_ok-names.names.items c.args.self.now c.args.dir (subst IsWhole c.self.view_is c.self.invariant.0) c.in_ok-names.ensures (sym c.in-None.is ∙ c.in_ok-from_vec.ensures)
