use Rattle.std.proofs.Common.{◌≡◌, ◌++◌, length, map, Bor}
use Rattle.tr_record.specs.declared.steps.Step.{Step}
use Rattle.tr_codec.proofs.node_pieces.lent.Given as goal

-- what was lent, and what is left
abbrev pub invariant-steps : goal.invariant-steps
invariant-steps l = map (λ (b : Bor Step). b.now) l.all.items ++ l.left ≡ l.fn.steps

abbrev pub decreases-steps : goal.decreases-steps
decreases-steps l = length l.left
