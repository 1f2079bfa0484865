use Rattle.std.proofs.Common.{◌≡◌, ℕ}
use Rattle.sh_expand.specs.Expands.{Body, Ended, Failed}
use Rattle.sh_expand.specs.Machine.{goes_on, size_of}
use Rattle.sh_expand.proofs.machine.run.Given as goal

abbrev pub invariant-parts : goal.invariant-parts
invariant-parts l = (body : ℕ → Body) (k : Ended) (fail : Failed) (p : ℕ) → goes_on body l.initial.x k fail l.initial.env p ≡ goes_on body l.x k fail l.env p

abbrev pub decreases-parts : goal.decreases-parts
decreases-parts l = size_of l.x
