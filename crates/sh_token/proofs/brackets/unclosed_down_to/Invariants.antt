use Rattle.std.proofs.Common.{length}
use Rattle.sh_token.specs.Folded.{folded}
use Rattle.sh_token.proofs.Unclosed.{Passed}
use Rattle.sh_token.proofs.brackets.unclosed_down_to.Given as goal

abbrev pub invariant-bytes : goal.invariant-bytes
invariant-bytes l = Passed l.class l.text l.left

abbrev pub decreases-bytes : goal.decreases-bytes
decreases-bytes l = length (folded l.left)
