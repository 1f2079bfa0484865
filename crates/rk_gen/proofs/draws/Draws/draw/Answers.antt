use Rattle.rk_gen.proofs.DrawLemmas.{draws, moves}
use Rattle.rk_gen.proofs.draws.Draws.draw.Goals as goal

pub returns-clause-drawn : goal.returns-clause-drawn
returns-clause-drawn c = draws c.args.m _ _ c.self.view_is

pub returns-clause-after : goal.returns-clause-after
returns-clause-after c = moves _ _ c.self.view_is
