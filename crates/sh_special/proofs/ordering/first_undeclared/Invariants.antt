use Rattle.std.proofs.Common.{◌≡◌, drop}
use Rattle.sh_operands.specs.Words.{first_that}
use Rattle.sh_special.specs.Orders.{declares_none}
use Rattle.sh_special.proofs.ordering.first_undeclared.Given as goal

abbrev pub invariant-words : goal.invariant-words
invariant-words l = first_that declares_none (drop l.word-index l.words) ≡ first_that declares_none l.words
