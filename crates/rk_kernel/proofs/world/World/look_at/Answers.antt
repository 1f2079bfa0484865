use Rattle.std.proofs.Common.{◌≡◌, ap, subst, sym, ◌∙◌}
use Rattle.std.specs.Prelude.{IfSome}
use Rattle.rk_tree.specs.Hierarchy.{know}
use Rattle.rk_kernel.specs.Full.{full_world}
use Rattle.rk_kernel.specs.World.{World}
use Rattle.rk_kernel.proofs.LookLemmas.{look-full, look-from, look-others}
use Rattle.rk_kernel.proofs.world.World.look_at.Goals as goal

pub returns-clause-full : goal.returns-clause-full
returns-clause-full g c =
    subst (λ (w : World). IfSome (g.G.Fetch.told c.args.fetch.now) (λ told. full_world told w ≡ full_world told c.args.self.now)) (ap (λ (w : World). record w { tree = c.know.new.self }) (sym c.self.view_is))
    (look-full (g.G.Fetch.told c.args.fetch.now) c.args.self.now c.know.new.self c.args.n c.new-node.result c.in_ok-bytes.bytes c.new-node.ensures c.in_ok-bytes.ensures.gives
    (c.in_ok-know.ensures.ok ∙ ap (λ (w : World). know w.tree c.new-node.result c.in_ok-bytes.bytes) c.self.view_is))

pub returns-clause-from : goal.returns-clause-from
returns-clause-from g c =
    look-from _ _ c.args.self.now.tree c.know.new.self c.new-node.result c.in_ok-bytes.bytes c.in_ok-bytes.ensures.told c.in_ok-bytes.ensures.gives
    (c.in_ok-know.ensures.ok ∙ ap (λ (w : World). know w.tree c.new-node.result c.in_ok-bytes.bytes) c.self.view_is) c.requires

pub returns-clause-others : goal.returns-clause-others
returns-clause-others g c =
    look-others c.args.self.now.tree c.know.new.self c.args.n c.new-node.result c.in_ok-bytes.bytes c.new-node.ensures
    (c.in_ok-know.ensures.ok ∙ ap (λ (w : World). know w.tree c.new-node.result c.in_ok-bytes.bytes) c.self.view_is)
