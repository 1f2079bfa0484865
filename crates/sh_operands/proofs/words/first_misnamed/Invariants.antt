use Rattle.std.proofs.Common.{◌≡◌, drop}
use Rattle.sh_operands.specs.Words.{first_that, is_misnamed}
use Rattle.sh_operands.proofs.words.first_misnamed.Given as goal

abbrev pub invariant-names : goal.invariant-names
invariant-names l = first_that is_misnamed (drop l.x-index l.words) ≡ first_that is_misnamed l.words
