use Rattle.std.specs.Fmt.{decimal}
use Rattle.rk_show.specs.Traces.{record_counts}
use Rattle.rk_show.proofs.CountedLemmas.{counts-in-turn}
use Rattle.rk_show.proofs.trace.add_counts.Goals as goal

pub returns : goal.returns
unfolding record_counts
returns c =
    counts-in-turn c.args.out.now.items (decimal c.args.steps) _ (decimal c.args.turns) _ (decimal c.args.exit) _ _ _ c.in_ok-add_count.ensures c.in_ok-add_count-2.ensures c.in_ok-add_number.ensures
