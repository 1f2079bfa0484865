use Rattle.std.proofs.Common.{◌≡◌, ◌++◌, length}
use Rattle.sh_token.specs.declared.delimiter.Within.TheVariants as w
use Rattle.sh_token.specs.HereDocuments.{delimiter_of}
use Rattle.sh_token.proofs.delimiter.delimiter_of.Given as goal

abbrev pub invariant-steps : goal.invariant-steps
invariant-steps l = delimiter_of w.Bare l.word ≡ l.out.items ++ delimiter_of l.within l.rest

abbrev pub decreases-steps : goal.decreases-steps
decreases-steps l = length l.rest
