use Rattle.std.proofs.Common.{length}
use Rattle.sh_token.proofs.Lines.{Searched}
use Rattle.sh_token.proofs.body.body.Given as goal

abbrev pub invariant-pieces : goal.invariant-pieces
invariant-pieces l = Searched l.document l.text l.fresh l.rest l.count

abbrev pub decreases-pieces : goal.decreases-pieces
decreases-pieces l = length l.rest
