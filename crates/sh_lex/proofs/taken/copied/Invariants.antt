use Rattle.std.proofs.Common.{◌≡◌, ◌++◌, length}
use Rattle.sh_token.specs.HereDocuments.{lines}
use Rattle.sh_token.specs.Steps.{as_read, untabbed}
use Rattle.sh_lex.proofs.taken.copied.Given as goal

abbrev pub invariant-bytes : goal.invariant-bytes
invariant-bytes l = as_read l.raw l.tabs l.begins l.text ≡ l.out.items ++ untabbed l.tabs l.fresh (lines l.raw l.left)

abbrev pub decreases-bytes : goal.decreases-bytes
decreases-bytes l = length (lines l.raw l.left)
