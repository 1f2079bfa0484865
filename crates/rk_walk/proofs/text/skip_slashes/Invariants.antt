use Rattle.std.proofs.Common.{◌≡◌, ℕ, List, ◌++◌, drop}
use Rattle.rk_walk.specs.Walk.{parts}
use Rattle.rk_walk.proofs.text.skip_slashes.Given as goal

abbrev pub invariant-loop-i : goal.invariant-loop-i
invariant-loop-i l = (more : List ℕ) → parts (l.text ++ more) ≡ parts (drop l.i l.text ++ more)
