use Rattle.std.proofs.Common.{◌≡◌, drop}
use Rattle.rk_seal.specs.Ops.{follow}
use Rattle.rk_seal.proofs.ops.follow.Given as goal

abbrev pub invariant-ops : goal.invariant-ops
invariant-ops l = follow l.last (drop l.op-index l.ops) ≡ follow l.first l.ops
