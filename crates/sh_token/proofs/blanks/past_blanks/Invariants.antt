use Rattle.std.proofs.Common.{length}
use Rattle.sh_token.proofs.Runs.{Left}
use Rattle.sh_token.proofs.blanks.past_blanks.Given as goal

abbrev pub invariant-skips : goal.invariant-skips
invariant-skips l = Left l.text l.comment l.rest

abbrev pub decreases-skips : goal.decreases-skips
decreases-skips l = length l.rest
