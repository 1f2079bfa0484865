use Rattle.sh_means.proofs.Loops.{each_counts, each_leaves}
use Rattle.sh_means.proofs.laws.loops_are_counted_far_enough.Goals as goal

pub returns : goal.returns
returns c = record { counts = each_counts; leaves = each_leaves }
