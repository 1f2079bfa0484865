use Rattle.std.proofs.Common.{◌≡◌, ◌+◌, length}
use Rattle.sh_arith.proofs.Texts.{Far}
use Rattle.sh_arith.proofs.read.steps_of.Given as goal

abbrev pub invariant-tokens : goal.invariant-tokens
invariant-tokens l = Far l.text l.rest l.at l.reading × (l.at + length l.rest ≡ length l.text)

abbrev pub decreases-tokens : goal.decreases-tokens
decreases-tokens l = length l.rest
