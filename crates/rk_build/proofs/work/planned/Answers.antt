use Rattle.rk_build.proofs.PrepareLemmas.{never-none}
use Rattle.rk_build.proofs.work.planned.Goals as goal

pub unreachable-requires : goal.unreachable-requires
unreachable-requires g c = never-none c.in_ok-plan.plan (c.in_ok-plan.ensures.whole c.requires.before c.requires.after) c.in-None.is
