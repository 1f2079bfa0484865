use Rattle.std.proofs.Common.{◌≡◌, drop}
use Rattle.rk_folder.specs.Schedule.{failing_at}
use Rattle.rk_folder.proofs.memory.counted.Given as goal

abbrev pub invariant-loop-it : goal.invariant-loop-it
invariant-loop-it l = failing_at (drop l.it-index l.failing) l.call ≡ failing_at l.failing l.call
