use Rattle.std.proofs.Common.{◌≡◌, ◌≤◌, drop, length}
use Rattle.sh_token.specs.Folded.{folded, behind}
use Rattle.sh_token.proofs.folded.skip.Given as goal

abbrev pub invariant-loop-at : goal.invariant-loop-at
invariant-loop-at l = (folded l.left ≡ drop l.at (folded l.text)) × (l.left ≡ behind l.at l.text) × (length l.left ≤ length l.text)
