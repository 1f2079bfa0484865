use Rattle.rk_build.proofs.WorkLemmas.{found-from}
use Rattle.rk_build.proofs.work.work.Goals as goal

pub plan_left-requires-clause-from : goal.plan_left-requires-clause-from
plan_left-requires-clause-from g c = found-from _ _ c.args.found.holding.entries c.in_ok-finished.ensures.keeps.told c.requires.from
