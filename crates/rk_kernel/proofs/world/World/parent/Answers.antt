use Rattle.std.proofs.Common.{◌≡◌, IfSome, true, subst}
use Rattle.rk_tree.specs.Entries.{is_dir}
use Rattle.rk_tree.specs.Hierarchy.{node}
use Rattle.rk_kernel.specs.World.{World}
use Rattle.rk_kernel.proofs.UpwardLemmas.{parent-is}
use Rattle.rk_kernel.proofs.world.World.parent.Goals as goal

pub returns-clause-dir : goal.returns-clause-dir
returns-clause-dir c =
    subst (λ (w : World). IfSome c.parent.result (λ up. is_dir (node w.tree up) ≡ true)) c.self.view_is
    (parent-is c.self.inside.tree c.root-root.ensures.whole c.args.dir c.parent.result c.parent.ensures)
