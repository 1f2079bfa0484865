use Rattle.std.proofs.Common.{◌≡◌, take, false}
use Rattle.rk_walk.specs.Course.{has_slash}
use Rattle.rk_walk.proofs.text.split_name.Given as goal

abbrev pub invariant-loop-i : goal.invariant-loop-i
invariant-loop-i l = has_slash (take l.i l.text) ≡ false
