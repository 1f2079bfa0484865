use Rattle.std.proofs.Common.{length}
use Rattle.sh_token.proofs.Walking.{Walked}
use Rattle.sh_token.proofs.delimiter.walk.Given as goal

abbrev pub invariant-steps : goal.invariant-steps
invariant-steps l = Walked l.text l.rest l.within l.count

abbrev pub decreases-steps : goal.decreases-steps
decreases-steps l = length l.rest
