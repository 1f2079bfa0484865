use Rattle.std.proofs.Common.{◌∙◌, ◌∷◌, []}
use Rattle.rk_base.specs.declared.errno.Errno.TheVariants.{Denied}
use Rattle.rk_tree.specs.Entries.{is_dir}
use Rattle.rk_tree.specs.Hierarchy.{linked, node}
use Rattle.rk_tree.specs.Refusals.{link_refusal, lacks_w}
use Rattle.rk_kernel.proofs.RowLemmas.{changed-unless, link-checks}
use Rattle.rk_kernel.proofs.world.World.links.Goals as goal

pub returns : goal.returns
returns c =
    c.in_ok-answer.ensures
    ∙ changed-unless c.args.self.now c.args.refs.now (link_refusal c.args.self.now.tree c.args.dir c.args.name.now c.args.n) ((is_dir (node c.args.self.now.tree c.args.n), Denied) ∷ (lacks_w c.args.self.now.tree c.args.dir, Denied) ∷ []) (linked c.args.self.now.tree c.args.dir c.args.name.now c.args.n)
    (link-checks c.args.self.now.tree c.args.dir c.args.name.now c.args.n c.requires.there c.requires.free.absent)
