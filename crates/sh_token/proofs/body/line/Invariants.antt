use Rattle.std.proofs.Common.{length}
use Rattle.sh_token.proofs.Lines.{Lined}
use Rattle.sh_token.proofs.body.line.Given as goal

abbrev pub invariant-pieces : goal.invariant-pieces
invariant-pieces l = Lined l.literal l.text l.rest l.count

abbrev pub decreases-pieces : goal.decreases-pieces
decreases-pieces l = length l.rest
