use Rattle.sh_token.proofs.Folding.{Counted}
use Rattle.sh_token.proofs.folded.run.Given as goal

abbrev pub invariant-loop-at : goal.invariant-loop-at
invariant-loop-at l = Counted l.class l.text l.left l.at
