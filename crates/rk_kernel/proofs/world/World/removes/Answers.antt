use Rattle.std.proofs.Common.{◌∙◌, ◌∷◌, []}
use Rattle.rk_base.specs.declared.errno.Errno.TheVariants.{Denied, NotEmpty}
use Rattle.rk_tree.specs.Hierarchy.{removed}
use Rattle.rk_tree.specs.Refusals.{remove_refusal, has_names, lacks_w}
use Rattle.rk_kernel.proofs.RowLemmas.{changed-unless, remove-checks}
use Rattle.rk_kernel.proofs.world.World.removes.Goals as goal

pub returns : goal.returns
returns c =
    c.remove_name.ensures
    ∙ changed-unless c.args.self.now c.args.refs.now (remove_refusal c.args.self.now.tree c.args.dir c.args.name.now) ((has_names c.args.self.now.tree c.args._n, NotEmpty) ∷ (lacks_w c.args.self.now.tree c.args.dir, Denied) ∷ []) (removed c.args.self.now.tree c.args.dir c.args.name.now)
    (remove-checks c.args.self.now.tree c.args.dir c.args.name.now c.args._n c.requires)
