use Rattle.rk_build.proofs.FullLemmas.{fresh-from}
use Rattle.rk_build.proofs.work.run_script.Goals as goal

pub run-requires-clause-from : goal.run-requires-clause-from
run-requires-clause-from g c = fresh-from _ c.args.found.now.holding.entries c.args.found.now.attrs _ c.in_ok-world.ensures c.requires.from
