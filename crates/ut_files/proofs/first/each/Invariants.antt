use Rattle.std.proofs.Common.{◌≡◌, ◌++◌, drop}
use Rattle.ut_files.specs.First.{each}
use Rattle.ut_files.proofs.first.each.Given as goal

abbrev pub invariant-operands : goal.invariant-operands
invariant-operands l = l.steps.items ++ each l.manner l.deed (drop l.operand-index l.operands) ≡ each l.manner l.deed l.operands
