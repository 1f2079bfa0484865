use Rattle.std.proofs.Common.{◌≡◌, ◌∙◌, true, subst}
use Rattle.rk_kernel.specs.World.{World}
use Rattle.rk_tree.specs.Entries.{is_dir}
use Rattle.rk_tree.specs.Hierarchy.{node}
use Rattle.rk_kernel.proofs.RowLemmas.{rename-to, no_slash, slash_at_dir}
use Rattle.rk_kernel.proofs.world.World.rename_to.Goals as goal

pub returns-then-not-slash : goal.returns-then-not-slash
returns-then-not-slash c =
    c.in_ok-answer.ensures
    ∙ rename-to c.args.self.now c.args.refs.now c.args.n c.args.from.now (c.args.to, c.args.name.now) c.args.slash c.requires.from.child_is c.requires.to.absent
    (no_slash c.args.slash (is_dir (node c.args.self.now.tree c.args.n)) c.if-not-slash.true)

pub returns-then-is_dir : goal.returns-then-is_dir
returns-then-is_dir c =
    c.in_ok-answer-2.ensures
    ∙ rename-to c.args.self.now c.args.refs.now c.args.n c.args.from.now (c.args.to, c.args.name.now) c.args.slash c.requires.from.child_is c.requires.to.absent
    (slash_at_dir c.args.slash (is_dir (node c.args.self.now.tree c.args.n)) (subst (λ (w : World). true ≡ is_dir (node w.tree c.args.n)) c.self.view_is c.if-is_dir.ensures))
