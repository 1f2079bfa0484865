use Rattle.std.proofs.Common.{length}
use Rattle.sh_token.proofs.Runs.{Joined}
use Rattle.sh_token.proofs.blanks.past_joins.Given as goal

abbrev pub invariant-joins : goal.invariant-joins
invariant-joins l = Joined l.text l.rest

abbrev pub decreases-joins : goal.decreases-joins
decreases-joins l = length l.rest
