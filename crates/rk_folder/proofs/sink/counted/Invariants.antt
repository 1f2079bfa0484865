use Rattle.std.proofs.Common.{◌≡◌, drop}
use Rattle.rk_folder.specs.Sinks.{failing_put}
use Rattle.rk_folder.proofs.sink.counted.Given as goal

abbrev pub invariant-loop-it : goal.invariant-loop-it
invariant-loop-it l = failing_put (drop l.it-index l.failing) l.put ≡ failing_put l.failing l.put
