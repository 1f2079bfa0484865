use Rattle.std.proofs.Common.{◌≡◌, ℕ, Some, map, take}
use Rattle.tr_record.proofs.known.KnownHeads.all.Given as goal

abbrev pub invariant-heads : goal.invariant-heads
invariant-heads l = l.all.items ≡ map (λ (head : ℕ). Some head) (take l.head-index l.heads)
