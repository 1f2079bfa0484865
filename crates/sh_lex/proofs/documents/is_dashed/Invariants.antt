use Rattle.std.proofs.Common.{◌≡◌, length, false}
use Rattle.sh_token.specs.Folded.{folded}
use Rattle.sh_token.specs.Steps.{ends_with_dash}
use Rattle.sh_lex.proofs.documents.is_dashed.Given as goal

abbrev pub invariant-bytes : goal.invariant-bytes
invariant-bytes l = ends_with_dash false (folded l.operator) ≡ ends_with_dash l.dashed (folded l.left)

abbrev pub decreases-bytes : goal.decreases-bytes
decreases-bytes l = length (folded l.left)
