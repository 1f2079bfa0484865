use Rattle.std.proofs.Common.{◌≡◌, map}
use Rattle.std.specs.List.{range_with_len}
use Rattle.ut_sed.specs.Changing.{image}
use Rattle.ut_sed.proofs.change.images.Given as goal

abbrev pub invariant-loop-i : goal.invariant-loop-i
invariant-loop-i l = l.images.items ≡ map (λ b. image b l.from l.to) (range_with_len 0 l.i)
