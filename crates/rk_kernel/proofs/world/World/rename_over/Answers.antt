use Rattle.std.proofs.Common.{◌∙◌}
use Rattle.rk_kernel.proofs.RowLemmas.{rename-over}
use Rattle.rk_kernel.proofs.world.World.rename_over.Goals as goal

pub returns : goal.returns
returns c = c.in_ok-answer.ensures ∙ rename-over c.args.self.now c.args.refs.now c.args.n c.args.m c.args.from.now c.args.to.now c.requires.from.child_is c.requires.to.child_is
