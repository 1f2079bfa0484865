use Rattle.std.proofs.Common.{sym, subst}
use Rattle.rk_tree.proofs.BelowLemmas.{child_none}
use Rattle.rk_tree.specs.Whole.{IsWhole}
use Rattle.rk_tree.proofs.tree.Tree.under.Goals as goal

pub returns-else-is_dir-clause-found : goal.returns-else-is_dir-clause-found
returns-else-is_dir-clause-found c = sym (child_none c.args.self.now c.args.dir c.args.name.now (subst IsWhole c.self.view_is c.self.invariant.0) (sym c.if-is_dir.ensures))
