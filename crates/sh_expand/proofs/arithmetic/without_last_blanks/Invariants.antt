use Rattle.std.proofs.Common.{◌≡◌, length}
use Rattle.sh_expand.specs.Arithmetic.{without_last_blanks}
use Rattle.sh_expand.proofs.arithmetic.without_last_blanks.Given as goal

abbrev pub invariant-blanks : goal.invariant-blanks
invariant-blanks l = without_last_blanks l.left ≡ without_last_blanks l.initial.left

abbrev pub decreases-blanks : goal.decreases-blanks
decreases-blanks l = length l.left
