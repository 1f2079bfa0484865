use Rattle.std.proofs.Common.{◌≡◌, ◌++◌, take}
use Rattle.std.specs.List.{flat_map}
use Rattle.rk_seal.specs.Spelling.{op_spelling}
use Rattle.rk_seal.proofs.writing.push_ops.Given as goal

abbrev pub invariant-ops : goal.invariant-ops
invariant-ops l = l.out.items ≡ l.fn.out.items ++ flat_map op_spelling (take l.op-index l.ops)
