use Rattle.std.proofs.Common.{◌∙◌, ◌++◌, ◌∷◌, []}
use Rattle.rk_base.specs.declared.errno.Errno.TheVariants.{Denied}
use Rattle.rk_tree.specs.Entries.{node_of}
use Rattle.rk_tree.specs.Hierarchy.{added}
use Rattle.rk_tree.specs.Refusals.{add_refusal, entry_checks, lacks_w}
use Rattle.rk_kernel.proofs.RowLemmas.{changed-unless, add-checks}
use Rattle.rk_kernel.proofs.world.World.make.Goals as goal

pub returns : goal.returns
returns c =
    c.in_ok-answer.ensures
    ∙ changed-unless c.args.self.now c.args.refs.now (add_refusal c.args.self.now.tree c.args.dir c.args.name.now (node_of c.args.it)) (entry_checks (node_of c.args.it) ++ (lacks_w c.args.self.now.tree c.args.dir, Denied) ∷ []) (added c.args.self.now.tree c.args.dir c.args.name.now (node_of c.args.it))
    (add-checks c.args.self.now.tree c.args.dir c.args.name.now (node_of c.args.it) c.requires.absent)
