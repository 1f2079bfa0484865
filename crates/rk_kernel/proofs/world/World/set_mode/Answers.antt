use Rattle.std.proofs.Common.{◌∙◌}
use Rattle.rk_tree.specs.Hierarchy as hierarchy
use Rattle.rk_tree.specs.Refusals.{mode_refusal, mode_checks}
use Rattle.rk_kernel.proofs.RowLemmas.{changed-unless, mode-checks}
use Rattle.rk_kernel.proofs.world.World.set_mode.Goals as goal

pub returns : goal.returns
returns c =
    c.change_mode.ensures
    ∙ changed-unless c.args.self.now c.args.refs.now (mode_refusal c.args.self.now.tree c.args.n c.args.mode) (mode_checks c.args.mode) (hierarchy.set_mode c.args.self.now.tree c.args.n c.args.mode)
    (mode-checks c.args.self.now.tree c.args.n c.args.mode c.requires)
