use Rattle.rk_tree.proofs.AscendingLemmas.{none_held}
use Rattle.rk_tree.proofs.ascending.Ascending.is_empty.Goals as goal

pub returns : goal.returns
returns c = none_held c.self.inside.held c.self.inside.rows.items c.args.self.now c.self.invariant.1 c.self.view_is
