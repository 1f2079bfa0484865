use Rattle.std.proofs.Common.{◌≡◌, ◌++◌, length}
use Rattle.tr_record.proofs.list.copies.Given as goal

-- what was copied, and what is left
abbrev pub invariant-steps : goal.invariant-steps
invariant-steps l = l.all.items ++ l.left ≡ l.fn.steps

abbrev pub decreases-steps : goal.decreases-steps
decreases-steps l = length l.left
