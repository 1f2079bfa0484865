use Rattle.std.proofs.Common.{◌++◌, ◌-◌, ◌+◌, List, ◌∙◌, ap, sym}
use Rattle.rk_kernel.specs.Foot.{upwards, upwards_by}
use Rattle.rk_kernel.specs.declared.cell.Cell.{Cell}
use Rattle.rk_kernel.proofs.UpwardLemmas.{up-none, up-some}
use Rattle.rk_kernel.proofs.world.World.upwards.Goals as goal

pub returns-in-None : goal.returns-in-None
returns-in-None c =
    c.in_ok-push.ensures.items
    ∙ up-none c.args.self.now.tree c.up.at c.in_ok-levels.levels c.up.counter (upwards c.args.self.now.tree c.args.dir) c.up.cells.items c.up-test.true
    c.in-None.ensures.parent c.up.invariant.same

pub up-preserved : goal.up-preserved
up-preserved c = record {
  dir = c.in-Some.ensures.dir;
  same = up-some c.args.self.now.tree c.up.at c.in_ok-levels.levels c.up.counter c.in-Some.up (upwards c.args.self.now.tree c.args.dir) c.up.cells.items c.up-test.true
      c.in-Some.ensures.parent c.up.invariant.same
      ∙ ap (λ (cells : List Cell). cells ++ upwards_by (c.in_ok-levels.levels - (c.up.counter + 1)) c.args.self.now.tree c.in-Some.up) (sym c.in_ok-push.ensures.items);
}
