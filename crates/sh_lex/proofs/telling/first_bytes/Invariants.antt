use Rattle.std.proofs.Common.{◌≡◌, ◌++◌, take}
use Rattle.sh_token.specs.Folded.{folded}
use Rattle.sh_lex.proofs.telling.first_bytes.Given as goal

abbrev pub invariant-bytes : goal.invariant-bytes
invariant-bytes l = take l.n (folded l.text) ≡ l.out.items ++ take l.count (folded l.left)

abbrev pub decreases-bytes : goal.decreases-bytes
decreases-bytes l = l.count
